-- For which limit a message on users is refused: the first that applies, by its own number.
use Rattle.std.specs.Prelude.{◌≡◌, ◌≢◌, ◌⊎◌, ◌≤◌, ◌<◌, ◌==◌, ℕ, List, [], ◌∷◌, length, map, sum_by, Some, unwrap_or}
use Rattle.std.specs.List.{Contains, count_by}
use Rattle.mum_base.specs.declared.number.{AccountId.AccountId, SessionId.SessionId}
use Rattle.mum_tree.specs.Rows.{row_of}
use Rattle.mum_tree.specs.declared.channel.Row.{Row}
use Rattle.mum_users.specs.declared.{listening.ListenerPair.ListenerPair, user.User.User}
use Rattle.mum_users.specs.{Edit.with_channels, Sessions.session_of}
use Rattle.mum_msg_state.specs.declared.{user_remove.UserRemove.UserRemove, user_state.UserState.UserState}
use Rattle.mum_msg_rule.specs.declared.{target_block.TargetBlock.TargetBlock, text_message.TextMessage.TextMessage}
use Rattle.mum_msg_rule.specs.declared.voice_target.VoiceTarget.{VoiceTarget}
use Rattle.mum_state.specs.State.{StateValue}
use Rattle.mum_rules_user.specs.Verdict.{user_verdict}
use Rattle.mum_rules_user.specs.declared.message.UserMessage.TheVariants.{Kick, Target, Text, User as Changes}
use Rattle.mum_limits_laws.specs.{Denials.IsRefusedFor, Denials.channel, UserNeeds.RulesSpeech}

-- what may be against a message on users
pub data UserLimit : Type 0 where
  super_user : UserLimit
  full_channel : UserLimit
  many_listeners : UserLimit
  many_listened : UserLimit
  long_text : UserLimit
  target_number : UserLimit
  large_target : UserLimit

-- the numbers of PermissionDenied.DenyType in Mumble.proto
abbrev pub number : UserLimit → ℕ
number UserLimit.super_user = 2
number UserLimit.full_channel = 9
number UserLimit.many_listeners = 12
number UserLimit.many_listened = 13
number UserLimit.long_text = 4
number UserLimit.target_number = 0
number UserLimit.large_target = 0

-- account 0 is SuperUser's, and the message is of another session
abbrev pub IsProtected : SessionId → User → Type 0
IsProtected actor it =
    (actor.0 ≢ it.session.0) × ((account : AccountId) × (it.account ≡ Some account) × (account.0 ≡ 0))

-- ---- a UserState

-- the session is in a different channel than the message gives, and there are as many in that as it takes
abbrev pub EntersFull : StateValue → UserState → User → Type 0
EntersFull state asked it =
    (n : ℕ) × (asked.channel_id ≡ Some n) × (n ≢ it.channel.0)
    × ((row : Row) × (row_of state.tree.channels (channel n) ≡ Some row) × (row.channel.info.max_users ≢ 0)
    × (row.channel.info.max_users ≤ count_by (λ one. one.channel.0 == n) state.roster.sessions))

-- who would listen to what, with the channels to which the session is to listen and before it leaves any
abbrev pub listening_then : StateValue → UserState → User → List ListenerPair
listening_then state asked it =
    with_channels it.session [] (map channel asked.listening_channel_add) state.roster.listeners

abbrev pub AgainstChanging : StateValue → SessionId → UserState → User → UserLimit → Type 0
AgainstChanging state actor asked it UserLimit.super_user = RulesSpeech asked × IsProtected actor it
AgainstChanging state actor asked it UserLimit.full_channel = EntersFull state asked it
AgainstChanging state actor asked it UserLimit.many_listeners =
    (n : ℕ) × Contains asked.listening_channel_add n
    × (64 < count_by (λ pair. pair.channel.0 == n) (listening_then state asked it))
AgainstChanging state actor asked it UserLimit.many_listened =
    32 < count_by (λ pair. pair.session.0 == it.session.0) (listening_then state asked it)
AgainstChanging state actor asked it UserLimit.long_text =
    (20000 < length (unwrap_or asked.comment [])) ⊎ (1024 < length (unwrap_or asked.plugin_context []))
AgainstChanging state actor asked it limit = ⊥

abbrev pub order_of_changing : List UserLimit
order_of_changing =
    UserLimit.super_user ∷ UserLimit.full_channel ∷ UserLimit.many_listeners ∷ UserLimit.many_listened
    ∷ UserLimit.long_text ∷ []

abbrev pub UserChangesAreRefusedForTheFirst : Type 0
UserChangesAreRefusedForTheFirst =
    (state : StateValue) (actor : SessionId) (asked : UserState) (it : User)
    → session_of state.roster (record { 0 = unwrap_or asked.session actor.0 }) ≡ Some it
    → it.session.0 ≡ unwrap_or asked.session actor.0
    → IsRefusedFor number (AgainstChanging state actor asked it) order_of_changing
    (user_verdict state (Some actor) (Changes asked))

-- ---- a removal of a session, a text and a voice target

abbrev pub AgainstKicking : SessionId → User → UserLimit → Type 0
AgainstKicking actor it UserLimit.super_user = IsProtected actor it
AgainstKicking actor it limit = ⊥

abbrev pub KicksAreRefusedForTheFirst : Type 0
KicksAreRefusedForTheFirst =
    (state : StateValue) (actor : SessionId) (asked : UserRemove) (it : User)
    → asked.session ≡ Some it.session.0 → session_of state.roster it.session ≡ Some it
    → IsRefusedFor number (AgainstKicking actor it) (UserLimit.super_user ∷ [])
    (user_verdict state (Some actor) (Kick asked))

abbrev pub AgainstWriting : TextMessage → UserLimit → Type 0
AgainstWriting asked UserLimit.long_text = 20000 < length (unwrap_or asked.message [])
AgainstWriting asked limit = ⊥

abbrev pub TextsAreRefusedForTheFirst : Type 0
TextsAreRefusedForTheFirst =
    (state : StateValue) (actor : SessionId) (asked : TextMessage)
    → IsRefusedFor number (AgainstWriting asked) (UserLimit.long_text ∷ [])
    (user_verdict state (Some actor) (Text asked))

-- a number that is not given is 0
abbrev pub AgainstAiming : VoiceTarget → UserLimit → Type 0
AgainstAiming asked UserLimit.target_number = (unwrap_or asked.id 0 ≡ 0) ⊎ (30 < unwrap_or asked.id 0)
AgainstAiming asked UserLimit.large_target =
    ((16 < length asked.targets) ⊎ (128 < sum_by (λ block. length block.session) asked.targets))
    ⊎ ((block : TargetBlock) × Contains asked.targets block × (128 < length (unwrap_or block.group [])))
AgainstAiming asked limit = ⊥

abbrev pub TargetsAreRefusedForTheFirst : Type 0
TargetsAreRefusedForTheFirst =
    (state : StateValue) (actor : SessionId) (asked : VoiceTarget)
    → IsRefusedFor number (AgainstAiming asked) (UserLimit.target_number ∷ UserLimit.large_target ∷ [])
    (user_verdict state (Some actor) (Target asked))
