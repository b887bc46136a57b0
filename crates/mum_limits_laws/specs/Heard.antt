-- Why a message is ignored: the first of these reasons that applies.
use Rattle.std.specs.Prelude.{◌≡◌, ◌⊎◌, ◌≤◌, ◌<◌, ◌^◌, ℕ, [], ◌∷◌, length, Some, None}
use Rattle.std.specs.List.{Contains}
use Rattle.mum_base.specs.declared.{number.SessionId.SessionId, outcome.Reason.Reason}
use Rattle.mum_base.specs.declared.outcome.Reason.TheVariants.{EmptyText, Gone, Malformed, NotLoggedIn, NotRead, NotThere, OfAnother, TooLong}
use Rattle.mum_tree.specs.Rows.{row_of}
use Rattle.mum_users.specs.Sessions.{session_of}
use Rattle.mum_part_laws.specs.Firsts.{IsFirst}
use Rattle.mum_state.specs.{Proper.IsProper, State.StateValue}
use Rattle.mum_state.specs.declared.verdict.Verdict.TheVariants.{Ignored}
use Rattle.mum_rules_tree.specs.{Asked.payload_of, Verdict.tree_verdict}
use Rattle.mum_rules_tree.specs.declared.message.TreeMessage.{TreeMessage}
use Rattle.mum_rules_tree.specs.declared.message.TreeMessage.TheVariants.{Acl, Remove, State}

-- 1 and 2 are for frames that are no command
abbrev pub number : Reason → ℕ
number NotRead = 1
number Malformed = 2
number NotLoggedIn = 3
number NotThere = 4
number OfAnother = 5
number EmptyText = 6
number TooLong = 7
number Gone = 8

-- ---- messages on channels

-- no channel has the number
abbrev pub IsNobody : StateValue → ℕ → Type 0
IsNobody state n = row_of state.tree.channels (record { 0 = n }) ≡ None

-- a ChannelState that names no channel names a parent; the message names one that is not there
abbrev pub NamesNobody : StateValue → TreeMessage → Type 0
NamesNobody state (State asked) =
    ((asked.channel_id ≡ None) × (asked.parent ≡ None))
    ⊎ ((n : ℕ) × ((asked.channel_id ≡ Some n) ⊎ (asked.parent ≡ Some n) ⊎ Contains asked.links_add n
    ⊎ Contains asked.links_remove n)
    × IsNobody state n)
NamesNobody state (Remove asked) =
    (asked.channel_id ≡ None) ⊎ ((n : ℕ) × (asked.channel_id ≡ Some n) × IsNobody state n)
NamesNobody state (Acl asked) = (asked.channel_id ≡ None) ⊎ ((n : ℕ) × (asked.channel_id ≡ Some n) × IsNobody state n)

-- its session is gone, or sessions made as many edits as they may; it is longer than 65,000 bytes; it names what is not there
abbrev pub AgainstHearing : StateValue → SessionId → TreeMessage → Reason → Type 0
AgainstHearing state actor message Gone = (session_of state.roster actor ≡ None) ⊎ (2 ^ 62 ≤ state.counts.revision)
AgainstHearing state actor message TooLong = 65000 < length (payload_of message)
AgainstHearing state actor message NotThere = NamesNobody state message
AgainstHearing state actor message reason = ⊥

abbrev pub TreeMessagesAreIgnoredForTheFirst : Type 0
TreeMessagesAreIgnoredForTheFirst =
    (state : StateValue) (actor : SessionId) (message : TreeMessage) (why : ℕ) → IsProper state
    → tree_verdict state actor message ≡ Ignored why
    → (reason : Reason) × (why ≡ number reason)
    × IsFirst (AgainstHearing state actor message) (Gone ∷ TooLong ∷ NotThere ∷ []) reason
