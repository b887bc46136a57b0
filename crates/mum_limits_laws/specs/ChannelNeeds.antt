-- For want of which permission a message on channels is denied: of those that it needs, the first that its session has not.
use Rattle.std.specs.Prelude.{◌≡◌, ◌≢◌, ◌⊎◌, ℕ, true, List, [], ◌∷◌, ◌++◌, map, Some, None, unwrap_or}
use Rattle.std.specs.List.{Contains}
use Rattle.mum_base.specs.declared.number.SessionId.{SessionId}
use Rattle.mum_tree.specs.Rows.{row_of}
use Rattle.mum_tree.specs.declared.channel.Row.{Row}
use Rattle.mum_users.specs.Sessions.{session_of}
use Rattle.mum_users.specs.declared.user.User.{User}
use Rattle.mum_msg_state.specs.declared.channel_remove.ChannelRemove.{ChannelRemove}
use Rattle.mum_msg_state.specs.declared.channel_state.ChannelState.{ChannelState}
use Rattle.mum_msg_rule.specs.declared.acl.Acl.{Acl as AclMessage}
use Rattle.mum_state.specs.State.{StateValue}
use Rattle.mum_rules_tree.specs.Verdict.{tree_verdict}
use Rattle.mum_rules_tree.specs.declared.message.TreeMessage.TheVariants.{Acl, Remove, State}
use Rattle.mum_limits_laws.specs.Denials.{IsDeniedFor, MayNot}

-- what a message on channels may need
pub data TreeNeed : Type 0 where
  to_make : TreeNeed
  to_make_temporary : TreeNeed
  to_describe : TreeNeed
  to_take_away : TreeNeed
  to_put_under : TreeNeed
  to_link : TreeNeed
  to_link_with : ℕ → TreeNeed
  to_remove : TreeNeed
  to_rule : TreeNeed

-- the permissions of the Murmur manual: Write 1, MakeChannel 64, LinkChannel 128, MakeTempChannel 1024
abbrev pub permission : TreeNeed → ℕ
permission TreeNeed.to_make = 64
permission TreeNeed.to_make_temporary = 1024
permission TreeNeed.to_describe = 1
permission TreeNeed.to_take_away = 1
permission TreeNeed.to_put_under = 64
permission TreeNeed.to_link = 128
permission (TreeNeed.to_link_with other) = 128
permission TreeNeed.to_remove = 1
permission TreeNeed.to_rule = 1

-- where the permission is needed, by a message that names this channel and this parent
abbrev pub place : ℕ → ℕ → TreeNeed → ℕ
place id parent TreeNeed.to_make = parent
place id parent TreeNeed.to_make_temporary = parent
place id parent TreeNeed.to_put_under = parent
place id parent (TreeNeed.to_link_with other) = other
place id parent need = id

-- ---- a new channel

abbrev pub LacksToMake : StateValue → User → ChannelState → ℕ → TreeNeed → Type 0
LacksToMake state user asked parent TreeNeed.to_make = (asked.temporary ≢ Some true) × MayNot state user 64 parent
LacksToMake state user asked parent TreeNeed.to_make_temporary =
    (asked.temporary ≡ Some true) × MayNot state user 1024 parent
LacksToMake state user asked parent need = ⊥

abbrev pub NewChannelsAreDeniedForTheFirst : Type 0
NewChannelsAreDeniedForTheFirst =
    (state : StateValue) (actor : SessionId) (user : User) (asked : ChannelState) (parent : ℕ)
    → session_of state.roster actor ≡ Some user → asked.channel_id ≡ None → asked.parent ≡ Some parent
    → IsDeniedFor permission (place parent parent) (LacksToMake state user asked parent)
    (TreeNeed.to_make ∷ TreeNeed.to_make_temporary ∷ [])
    (tree_verdict state actor (State asked))

-- ---- a change of a channel

-- a name or something that describes it is given
abbrev pub Describes : ChannelState → Type 0
Describes asked =
    (((asked.name ≢ None) ⊎ (asked.description ≢ None)) ⊎ (asked.position ≢ None)) ⊎ (asked.max_users ≢ None)

-- a parent is given that is not the channel's
abbrev pub Moves : ChannelState → Row → Type 0
Moves asked row = (parent : ℕ) × (asked.parent ≡ Some parent) × (parent ≢ row.channel.parent.0)

-- a link comes or goes
abbrev pub Links : ChannelState → Row → Type 0
Links asked row = (other : ℕ) × Contains (asked.links_add ++ asked.links_remove) other × (other ≢ row.channel.id.0)

abbrev pub LacksToChange : StateValue → User → ChannelState → Row → TreeNeed → Type 0
LacksToChange state user asked row TreeNeed.to_describe = Describes asked × MayNot state user 1 row.channel.id.0
LacksToChange state user asked row TreeNeed.to_take_away = Moves asked row × MayNot state user 1 row.channel.id.0
LacksToChange state user asked row TreeNeed.to_put_under =
    Moves asked row × MayNot state user 64 (unwrap_or asked.parent 0)
LacksToChange state user asked row TreeNeed.to_link = Links asked row × MayNot state user 128 row.channel.id.0
LacksToChange state user asked row (TreeNeed.to_link_with other) =
    (other ≢ row.channel.id.0) × MayNot state user 128 other
LacksToChange state user asked row need = ⊥

-- the channels that get a link or lose one come in the order of the message
abbrev pub order_of_change : ChannelState → List TreeNeed
order_of_change asked =
    TreeNeed.to_describe ∷ TreeNeed.to_take_away ∷ TreeNeed.to_put_under ∷ TreeNeed.to_link
    ∷ map TreeNeed.to_link_with (asked.links_add ++ asked.links_remove)

abbrev pub ChangesAreDeniedForTheFirst : Type 0
ChangesAreDeniedForTheFirst =
    (state : StateValue) (actor : SessionId) (user : User) (asked : ChannelState) (row : Row)
    → session_of state.roster actor ≡ Some user → asked.channel_id ≡ Some row.channel.id.0
    → row_of state.tree.channels row.channel.id ≡ Some row
    → IsDeniedFor permission (place row.channel.id.0 (unwrap_or asked.parent 0)) (LacksToChange state user asked row)
    (order_of_change asked)
    (tree_verdict state actor (State asked))

-- ---- a removal, and a policy

abbrev pub LacksToRemove : StateValue → User → ℕ → TreeNeed → Type 0
LacksToRemove state user n TreeNeed.to_remove = MayNot state user 1 n
LacksToRemove state user n need = ⊥

abbrev pub RemovalsAreDeniedForTheFirst : Type 0
RemovalsAreDeniedForTheFirst =
    (state : StateValue) (actor : SessionId) (user : User) (asked : ChannelRemove) (n : ℕ)
    → session_of state.roster actor ≡ Some user → asked.channel_id ≡ Some n
    → IsDeniedFor permission (place n n) (LacksToRemove state user n) (TreeNeed.to_remove ∷ [])
    (tree_verdict state actor (Remove asked))

-- on the channel or on its parent, whether the policy is asked for or set
abbrev pub LacksToRule : StateValue → User → Row → TreeNeed → Type 0
LacksToRule state user row TreeNeed.to_rule =
    MayNot state user 1 row.channel.id.0 × MayNot state user 1 row.channel.parent.0
LacksToRule state user row need = ⊥

abbrev pub PoliciesAreDeniedForTheFirst : Type 0
PoliciesAreDeniedForTheFirst =
    (state : StateValue) (actor : SessionId) (user : User) (asked : AclMessage) (row : Row)
    → session_of state.roster actor ≡ Some user → asked.channel_id ≡ Some row.channel.id.0
    → row_of state.tree.channels row.channel.id ≡ Some row
    → IsDeniedFor permission (place row.channel.id.0 row.channel.id.0) (LacksToRule state user row)
    (TreeNeed.to_rule ∷ [])
    (tree_verdict state actor (Acl asked))
