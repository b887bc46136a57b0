-- Why a message on users is ignored: the first of these reasons that applies.
use Rattle.std.specs.Prelude.{◌≡◌, ◌≢◌, ◌⊎◌, ◌≤◌, ◌<◌, ◌^◌, ℕ, [], ◌∷◌, length, Option, Some, None, unwrap_or}
use Rattle.std.specs.List.{Contains}
use Rattle.mum_base.specs.declared.{number.SessionId.SessionId, outcome.Reason.Reason}
use Rattle.mum_base.specs.declared.outcome.Reason.TheVariants.{EmptyText, Gone, NotLoggedIn, NotThere, OfAnother, TooLong}
use Rattle.mum_users.specs.Sessions.{session_of}
use Rattle.mum_part_laws.specs.Firsts.{IsFirst}
use Rattle.mum_msg_state.specs.declared.{authenticate.Authenticate.Authenticate, user_state.UserState.UserState}
use Rattle.mum_state.specs.{Proper.IsProper, State.StateValue}
use Rattle.mum_state.specs.declared.verdict.Verdict.TheVariants.{Ignored}
use Rattle.mum_rules_user.specs.{Asked.payload_of, Verdict.user_verdict}
use Rattle.mum_rules_user.specs.declared.message.UserMessage.{UserMessage}
use Rattle.mum_rules_user.specs.declared.message.UserMessage.TheVariants.{Join, Kick, Leave, Query, Text, User}
use Rattle.mum_limits_laws.specs.Heard.{IsNobody, number}

-- no session has the number
abbrev pub IsNoSession : StateValue → ℕ → Type 0
IsNoSession state n = session_of state.roster (record { 0 = n }) ≡ None

-- the session is gone; who never had one has none that could leave
abbrev pub IsGone : StateValue → Option SessionId → UserMessage → Type 0
IsGone state (Some session) message = session_of state.roster session ≡ None
IsGone state None message = message ≡ Leave

-- what a UserState names: a session, a channel, and channels to listen to and to leave
abbrev pub NamesNoUser : StateValue → UserState → Type 0
NamesNoUser state asked =
    ((n : ℕ) × (asked.session ≡ Some n) × IsNoSession state n)
    ⊎ ((n : ℕ) × ((asked.channel_id ≡ Some n) ⊎ Contains asked.listening_channel_add n
    ⊎ Contains asked.listening_channel_remove n) × IsNobody state n)

-- whom a text and a voice target are for need not be there
abbrev pub NamesNobody : StateValue → UserMessage → Type 0
NamesNobody state (User asked) = NamesNoUser state asked
NamesNobody state (Kick asked) = (asked.session ≡ None) ⊎ ((n : ℕ) × (asked.session ≡ Some n) × IsNoSession state n)
NamesNobody state (Query asked) = (n : ℕ) × (asked.channel_id ≡ Some n) × IsNobody state n
NamesNobody state message = ⊥

-- it gives what each session sets for itself: whether it mutes or deafens itself, its texts, whether it records, to what it
-- listens
abbrev pub GivesOwn : UserState → Type 0
GivesOwn asked =
    ((((((asked.self_mute ≢ None) ⊎ (asked.self_deaf ≢ None)) ⊎ (asked.comment ≢ None)) ⊎ (asked.plugin_context ≢ None))
    ⊎ (asked.recording ≢ None))
    ⊎ (asked.listening_channel_add ≢ [])) ⊎ (asked.listening_channel_remove ≢ [])

-- and is about another session
abbrev pub IsOfAnother : Option SessionId → UserMessage → Type 0
IsOfAnother (Some session) (User asked) = ((n : ℕ) × (asked.session ≡ Some n) × (n ≢ session.0)) × GivesOwn asked
IsOfAnother actor message = ⊥

abbrev pub IsEmptyText : UserMessage → Type 0
IsEmptyText (Text asked) = unwrap_or asked.message [] ≡ []
IsEmptyText message = ⊥

abbrev pub AgainstHearing : StateValue → Option SessionId → UserMessage → Reason → Type 0
AgainstHearing state actor message Gone = IsGone state actor message ⊎ (2 ^ 62 ≤ state.counts.revision)
AgainstHearing state actor message NotLoggedIn =
    (actor ≡ None) × ((login : Authenticate) (version : Option ℕ) → message ≢ Join login version)
AgainstHearing state actor message TooLong = 65000 < length (payload_of message)
AgainstHearing state actor message NotThere = NamesNobody state message
AgainstHearing state actor message OfAnother = IsOfAnother actor message
AgainstHearing state actor message EmptyText = IsEmptyText message
AgainstHearing state actor message reason = ⊥

abbrev pub UserMessagesAreIgnoredForTheFirst : Type 0
UserMessagesAreIgnoredForTheFirst =
    (state : StateValue) (actor : Option SessionId) (message : UserMessage) (why : ℕ) → IsProper state
    → user_verdict state actor message ≡ Ignored why
    → (reason : Reason) × (why ≡ number reason)
    × IsFirst (AgainstHearing state actor message)
    (Gone ∷ NotLoggedIn ∷ TooLong ∷ NotThere ∷ OfAnother ∷ EmptyText ∷ []) reason
