-- For want of which permission a message on users is denied: of those that it needs, the first that its session has not.
use Rattle.std.specs.Prelude.{◌≡◌, ◌≢◌, ◌⊎◌, ℕ, ◌-◌, not, nat_lt, true, false, List, [], ◌∷◌, ◌++◌, filter, length, map, take, Some, None, unwrap_or}
use Rattle.std.specs.Option.{option_map_or}
use Rattle.mum_base.specs.declared.number.SessionId.{SessionId}
use Rattle.mum_tree.specs.Rows.{row_of}
use Rattle.mum_users.specs.Sessions.{session_of}
use Rattle.mum_users.specs.declared.user.User.{User}
use Rattle.mum_msg_state.specs.declared.{user_remove.UserRemove.UserRemove, user_state.UserState.UserState}
use Rattle.mum_msg_rule.specs.declared.text_message.TextMessage.{TextMessage}
use Rattle.mum_state.specs.State.{StateValue}
use Rattle.mum_rules_user.specs.Verdict.{user_verdict}
use Rattle.mum_rules_user.specs.declared.message.UserMessage.TheVariants.{Kick, Text, User as Changes}
use Rattle.mum_limits_laws.specs.Denials.{IsDeniedFor, MayNot, MayNotWith, channel}

-- what a message on users may need; a text is for sessions, channels and trees of channels
pub data UserNeed : Type 0 where
  to_enter : UserNeed
  to_take_away : UserNeed
  to_put_into : UserNeed
  to_rule_speech : UserNeed
  to_listen : ℕ → UserNeed
  to_kick : UserNeed
  to_ban : UserNeed
  to_write_to : ℕ → UserNeed
  to_write_in : ℕ → UserNeed

-- the permissions of the Murmur manual: Enter 4, MuteDeafen 16, Move 32, TextMessage 512, Listen 2048, Kick 65536, Ban 131072
abbrev pub permission : UserNeed → ℕ
permission UserNeed.to_enter = 4
permission UserNeed.to_take_away = 32
permission UserNeed.to_put_into = 32
permission UserNeed.to_rule_speech = 16
permission (UserNeed.to_listen n) = 2048
permission UserNeed.to_kick = 65536
permission UserNeed.to_ban = 131072
permission (UserNeed.to_write_to n) = 512
permission (UserNeed.to_write_in n) = 512

-- ---- a UserState

-- the session is in a different channel than the message gives
abbrev pub Moves : UserState → User → Type 0
Moves asked it = (n : ℕ) × (asked.channel_id ≡ Some n) × (n ≢ it.channel.0)

-- it says who is heard
abbrev pub RulesSpeech : UserState → Type 0
RulesSpeech asked =
    (((asked.mute ≢ None) ⊎ (asked.deaf ≢ None)) ⊎ (asked.suppress ≡ Some false)) ⊎ (asked.priority_speaker ≢ None)

-- the session's own access tokens, and of those that the message brings the first that are no longer than 128 bytes, until
-- there are 64
abbrev pub tokens_with : User → UserState → List (List ℕ)
tokens_with user asked =
    user.tokens
    ++ take (64 - length user.tokens)
    (filter (λ token. not (nat_lt 128 (length token))) asked.temporary_access_tokens)

-- whoever enters has not Enter there, where it has these tokens, nor has the other Move
abbrev pub MayNotEnter : StateValue → User → List (List ℕ) → User → List (List ℕ) → ℕ → Type 0
MayNotEnter state enters own user tokens n = MayNotWith state enters own 4 n × MayNotWith state user tokens 32 n

-- the message is of the one session, and about the other, which may be the same
abbrev pub LacksToChange : StateValue → User → UserState → User → UserNeed → Type 0
LacksToChange state user asked it UserNeed.to_enter =
    (it.session.0 ≡ user.session.0)
    × (Moves asked it
    × MayNotEnter state user (tokens_with user asked) user (tokens_with user asked) (unwrap_or asked.channel_id 0))
LacksToChange state user asked it UserNeed.to_take_away =
    (it.session.0 ≢ user.session.0) × (Moves asked it × MayNotWith state user (tokens_with user asked) 32 it.channel.0)
LacksToChange state user asked it UserNeed.to_put_into =
    (it.session.0 ≢ user.session.0)
    × (Moves asked it × MayNotEnter state it it.tokens user (tokens_with user asked) (unwrap_or asked.channel_id 0))
LacksToChange state user asked it UserNeed.to_rule_speech =
    RulesSpeech asked × MayNotWith state user (tokens_with user asked) 16 it.channel.0
LacksToChange state user asked it (UserNeed.to_listen n) = MayNotWith state user (tokens_with user asked) 2048 n
LacksToChange state user asked it need = ⊥

abbrev pub order_of_change : UserState → List UserNeed
order_of_change asked =
    UserNeed.to_enter ∷ UserNeed.to_take_away ∷ UserNeed.to_put_into ∷ UserNeed.to_rule_speech
    ∷ map UserNeed.to_listen asked.listening_channel_add

-- where the permission is needed
abbrev pub place_of_change : UserState → User → UserNeed → ℕ
place_of_change asked it UserNeed.to_take_away = it.channel.0
place_of_change asked it UserNeed.to_rule_speech = it.channel.0
place_of_change asked it (UserNeed.to_listen n) = n
place_of_change asked it need = unwrap_or asked.channel_id 0

abbrev pub UserChangesAreDeniedForTheFirst : Type 0
UserChangesAreDeniedForTheFirst =
    (state : StateValue) (actor : SessionId) (user it : User) (asked : UserState)
    → session_of state.roster actor ≡ Some user → user.session ≡ actor
    → session_of state.roster (record { 0 = unwrap_or asked.session actor.0 }) ≡ Some it
    → it.session.0 ≡ unwrap_or asked.session actor.0
    → IsDeniedFor permission (place_of_change asked it) (LacksToChange state user asked it) (order_of_change asked)
    (user_verdict state (Some actor) (Changes asked))

-- ---- a removal of a session

-- on the root
abbrev pub LacksToKick : StateValue → User → UserRemove → UserNeed → Type 0
LacksToKick state user asked UserNeed.to_kick = MayNot state user 65536 0 × MayNot state user 131072 0
LacksToKick state user asked UserNeed.to_ban = (asked.ban ≡ Some true) × MayNot state user 131072 0
LacksToKick state user asked need = ⊥

abbrev pub KicksAreDeniedForTheFirst : Type 0
KicksAreDeniedForTheFirst =
    (state : StateValue) (actor : SessionId) (user : User) (asked : UserRemove)
    → session_of state.roster actor ≡ Some user
    → IsDeniedFor permission (λ need. 0) (LacksToKick state user asked) (UserNeed.to_kick ∷ UserNeed.to_ban ∷ [])
    (user_verdict state (Some actor) (Kick asked))

-- ---- a text

-- in the channel of each session that is here, and in each channel that is there; of a tree in the one at its top
abbrev pub LacksToWrite : StateValue → User → UserNeed → Type 0
LacksToWrite state user (UserNeed.to_write_to n) =
    (it : User) × (session_of state.roster (record { 0 = n }) ≡ Some it) × MayNot state user 512 it.channel.0
LacksToWrite state user (UserNeed.to_write_in n) =
    (row_of state.tree.channels (channel n) ≢ None) × MayNot state user 512 n
LacksToWrite state user need = ⊥

abbrev pub order_of_text : TextMessage → List UserNeed
order_of_text asked =
    map UserNeed.to_write_to asked.session ++ map UserNeed.to_write_in (asked.channel_id ++ asked.tree_id)

-- of a session its channel
abbrev pub place_of_text : StateValue → UserNeed → ℕ
place_of_text state (UserNeed.to_write_to n) =
    option_map_or (λ it. it.channel.0) (session_of state.roster (record { 0 = n })) 0
place_of_text state (UserNeed.to_write_in n) = n
place_of_text state need = 0

abbrev pub TextsAreDeniedForTheFirst : Type 0
TextsAreDeniedForTheFirst =
    (state : StateValue) (actor : SessionId) (user : User) (asked : TextMessage)
    → session_of state.roster actor ≡ Some user
    → IsDeniedFor permission (place_of_text state) (LacksToWrite state user) (order_of_text asked)
    (user_verdict state (Some actor) (Text asked))
