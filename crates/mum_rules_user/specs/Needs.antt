-- What each command on users needs, in order: the permissions of the Murmur manual's "ACL".
use Rattle.std.specs.Prelude.{List, [], ◌∷◌, ◌++◌, Bool, map, unwrap_or, false, if◌then◌else◌}
use Rattle.std.specs.Option.{option_map_or}
use Rattle.mum_base.specs.declared.number.{ChannelId.ChannelId, SessionId.SessionId, TheConstants.ChannelId.ROOT}
use Rattle.mum_base.specs.declared.perm.Perm.{Perm}
use Rattle.mum_base.specs.declared.perm.TheConstants.Perm.{BAN, ENTER, KICK, LISTEN, MOVE, MUTE_DEAFEN, TEXT_MESSAGE}
use Rattle.mum_policy.specs.Member.{Actor}
use Rattle.mum_msg_state.specs.declared.{user_remove.UserRemove.UserRemove, user_state.UserState.UserState}
use Rattle.mum_state.specs.State.{StateValue}
use Rattle.mum_rules_tree.specs.{Decision.Need, Decision.need, Decision.way, Verdict.actor_named}
use Rattle.mum_rules_user.specs.Asked.{Command, channel_of, channels, channels_told, is_oneself, new_channel, rules_speech}

-- a need with two ways
abbrev pub either_way : Perm → Actor → Perm → Actor → ChannelId → Need
either_way first who second other channel =
    record { first = way who first channel; others = way other second channel ∷ [] }

-- Enter or Move there
abbrev pub needs_to_enter : Actor → ChannelId → List Need
needs_to_enter who there = either_way ENTER who MOVE who there ∷ []

-- Move where another is, and then Move there, or Enter of the one who is moved
abbrev pub needs_to_bring : Actor → Actor → ChannelId → ChannelId → List Need
needs_to_bring who moved here there = need who MOVE here ∷ either_way MOVE who ENTER moved there ∷ []

-- for another channel
abbrev pub needs_to_move : StateValue → Actor → SessionId → SessionId → UserState → List Need
needs_to_move state who actor session message =
    option_map_or
    (λ there. if is_oneself actor session then needs_to_enter who there
    else needs_to_bring who (actor_named state session) (channel_of state.roster session) there)
    (new_channel state.roster session message) []

-- MuteDeafen in the channel in which the session is before
abbrev pub needs_to_rule_speech : StateValue → Actor → SessionId → UserState → List Need
needs_to_rule_speech state who session message =
    if rules_speech message then need who MUTE_DEAFEN (channel_of state.roster session) ∷ [] else []

-- Listen in each channel, also in one to which it listens already
abbrev pub needs_to_listen : Actor → UserState → List Need
needs_to_listen who message = map (need who LISTEN) (channels message.listening_channel_add)

abbrev pub is_ban : UserRemove → Bool
is_ban message = unwrap_or message.ban false

-- Kick or Ban on the root, and for a ban Ban
abbrev pub needs_to_kick : Actor → UserRemove → List Need
needs_to_kick who message = either_way KICK who BAN who ROOT ∷ (if is_ban message then need who BAN ROOT ∷ [] else [])

-- the session and the actor are one; for what a message gives it for this once it may be asked with more tokens
abbrev pub needs : StateValue → Actor → SessionId → Command → List Need
needs state who actor (Command.renew message) = []
needs state who actor (Command.change session message) =
    needs_to_move state who actor session message ++ needs_to_rule_speech state who session message
    ++ needs_to_listen who message
needs state who actor (Command.kick session message) = needs_to_kick who message
needs state who actor (Command.text message) = map (need who TEXT_MESSAGE) (channels_told state message)
needs state who actor (Command.target message) = []
needs state who actor (Command.query id) = []
needs state who actor Command.leave = []
