-- What each command on channels needs, in order: the permissions of the Murmur manual's "ACL".
use Rattle.std.specs.Prelude.{List, [], ◌∷◌, ◌++◌, map, Option, if◌then◌else◌}
use Rattle.std.specs.Option.{option_map_or}
use Rattle.mum_base.specs.declared.{number.ChannelId.ChannelId, perm.Perm.Perm}
use Rattle.mum_base.specs.declared.perm.TheConstants.Perm.{LINK_CHANNEL, MAKE_CHANNEL, MAKE_TEMP_CHANNEL, WRITE}
use Rattle.mum_policy.specs.Member.{Actor}
use Rattle.mum_tree.specs.{Refusals.parent_of, State.TreeState}
use Rattle.mum_msg_state.specs.declared.channel_state.ChannelState.{ChannelState}
use Rattle.mum_state.specs.Kinds.{is_empty}
use Rattle.mum_rules_tree.specs.Asked.{Command, describes, is_to_be_temporary, linked_others, new_parent, parent_of_new}
use Rattle.mum_rules_tree.specs.Decision.{Need, need, way}

abbrev pub making : ChannelState → Perm
making message = if is_to_be_temporary message then MAKE_TEMP_CHANNEL else MAKE_CHANNEL

-- Write on it, for its name and what describes it
abbrev pub needs_to_describe : Actor → ChannelId → ChannelState → List Need
needs_to_describe who id message = if describes message then need who WRITE id ∷ [] else []

-- for another parent Write on it, and MakeChannel there
abbrev pub needs_to_move : Actor → ChannelId → Option ChannelId → List Need
needs_to_move who id parent = option_map_or (λ there. need who WRITE id ∷ need who MAKE_CHANNEL there ∷ []) parent []

-- for links LinkChannel on it, then on each other channel
abbrev pub needs_to_link : Actor → ChannelId → List ChannelId → List Need
needs_to_link who id linked = if is_empty linked then [] else map (need who LINK_CHANNEL) (id ∷ linked)

-- Write on the channel or on its parent
abbrev pub need_to_rule : TreeState → Actor → ChannelId → Need
need_to_rule tree who id = record { first = way who WRITE id; others = way who WRITE (parent_of tree id) ∷ [] }

abbrev pub needs : TreeState → Actor → Command → List Need
needs tree who (Command.make message) = need who (making message) (parent_of_new message) ∷ []
needs tree who (Command.edit id message) =
    needs_to_describe who id message ++ needs_to_move who id (new_parent tree id message)
    ++ needs_to_link who id (linked_others id message)
needs tree who (Command.remove id) = need who WRITE id ∷ []
needs tree who (Command.query id) = need_to_rule tree who id ∷ []
needs tree who (Command.set id message) = need_to_rule tree who id ∷ []
