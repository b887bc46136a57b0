-- For which limit a message on channels is refused: the first that applies, by its own number.
use Rattle.std.specs.Prelude.{◌≡◌, ◌≢◌, ◌⊎◌, ◌≤◌, ◌<◌, ◌==◌, ℕ, ◌-◌, ◌^◌, not, false, List, [], ◌∷◌, ◌++◌, filter, length, map, Some, None, unwrap_or}
use Rattle.std.specs.List.{Contains, count_by}
use Rattle.mum_base.specs.declared.number.{ChannelId.ChannelId, SessionId.SessionId}
use Rattle.mum_tree.specs.{Change.pairs_with_all, Rows.path, Rows.row_of, State.starts_at}
use Rattle.mum_tree.specs.declared.channel.Row.{Row}
use Rattle.mum_part_laws.specs.Trees.{HasName, IsOnWay, IsTemporary, NestsTooDeep}
use Rattle.mum_msg_state.specs.declared.channel_remove.ChannelRemove.{ChannelRemove}
use Rattle.mum_msg_state.specs.declared.channel_state.ChannelState.{ChannelState}
use Rattle.mum_msg_rule.specs.declared.{acl.Acl.Acl as AclMessage, acl_group.AclGroup.AclGroup}
use Rattle.mum_msg_rule.specs.declared.acl_line.AclLine.{AclLine}
use Rattle.mum_state.specs.{Proper.IsProper, Proper.is_name, State.StateValue}
use Rattle.mum_rules_tree.specs.Verdict.{tree_verdict}
use Rattle.mum_rules_tree.specs.declared.message.TreeMessage.TheVariants.{Acl, Remove, State}
use Rattle.mum_limits_laws.specs.Denials.{IsRefusedFor, channel}

-- what may be against a message on channels
pub data TreeLimit : Type 0 where
  fixed_root : TreeLimit
  taken_name : TreeLimit
  under_itself : TreeLimit
  temporary_parent : TreeLimit
  too_deep : TreeLimit
  too_many : TreeLimit
  long_text : TreeLimit
  too_many_links : TreeLimit
  large_policy : TreeLimit
  unnamed_group : TreeLimit
  doubled_group : TreeLimit

-- the numbers of PermissionDenied.DenyType in Mumble.proto
abbrev pub number : TreeLimit → ℕ
number TreeLimit.taken_name = 3
number TreeLimit.long_text = 4
number TreeLimit.temporary_parent = 6
number TreeLimit.too_deep = 10
number TreeLimit.too_many = 11
number other = 0

-- ---- a new channel

-- a channel under the parent has the name; the root is the child of none
abbrev pub IsNameThere : StateValue → ℕ → List ℕ → Type 0
IsNameThere state parent name =
    (row : Row) × Contains state.tree.channels row × (row.channel.id.0 ≢ 0) × (row.channel.parent.0 ≡ parent)
    × (row.channel.name ≡ name)

abbrev pub AgainstMaking : StateValue → ChannelState → ℕ → TreeLimit → Type 0
AgainstMaking state asked parent TreeLimit.taken_name =
    (is_name (unwrap_or asked.name []) ≡ false) ⊎ IsNameThere state parent (unwrap_or asked.name [])
AgainstMaking state asked parent TreeLimit.temporary_parent = IsTemporary state.tree (channel parent)
AgainstMaking state asked parent TreeLimit.too_deep = 33 ≤ length (path state.tree.channels (channel parent))
AgainstMaking state asked parent TreeLimit.too_many =
    (state.tree.limit ≤ length state.tree.channels) ⊎ (2 ^ 32 - 1 ≤ state.tree.greatest)
AgainstMaking state asked parent TreeLimit.long_text = 20000 < length (unwrap_or asked.description [])
AgainstMaking state asked parent limit = ⊥

abbrev pub order_of_making : List TreeLimit
order_of_making =
    TreeLimit.taken_name ∷ TreeLimit.temporary_parent ∷ TreeLimit.too_deep ∷ TreeLimit.too_many ∷ TreeLimit.long_text
    ∷ []

abbrev pub NewChannelsAreRefusedForTheFirst : Type 0
NewChannelsAreRefusedForTheFirst =
    (state : StateValue) (actor : SessionId) (asked : ChannelState) (parent : ℕ) → IsProper state
    → asked.channel_id ≡ None → asked.parent ≡ Some parent
    → IsRefusedFor number (AgainstMaking state asked parent) order_of_making (tree_verdict state actor (State asked))

-- ---- a change of a channel

-- the name and the parent that the channel would have
abbrev pub name_then : ChannelState → Row → List ℕ
name_then asked row = unwrap_or asked.name row.channel.name

abbrev pub parent_then : ChannelState → Row → ChannelId
parent_then asked row = channel (unwrap_or asked.parent row.channel.parent.0)

-- one of them would be different
abbrev pub IsPlaced : ChannelState → Row → Type 0
IsPlaced asked row = (name_then asked row ≢ row.channel.name) ⊎ ((parent_then asked row).0 ≢ row.channel.parent.0)

-- the other channels to which it would be linked
abbrev pub links_asked : ChannelState → Row → List ChannelId
links_asked asked row = map channel (filter (λ other. not (other == row.channel.id.0)) asked.links_add)

-- links that come are counted before others go
abbrev pub AgainstChanging : StateValue → ChannelState → Row → TreeLimit → Type 0
AgainstChanging state asked row TreeLimit.fixed_root = IsPlaced asked row × (row.channel.id.0 ≡ 0)
AgainstChanging state asked row TreeLimit.taken_name =
    ((name_then asked row ≢ row.channel.name) × (is_name (name_then asked row) ≡ false))
    ⊎ (IsPlaced asked row × HasName state.tree (parent_then asked row) row.channel.id (name_then asked row))
AgainstChanging state asked row TreeLimit.under_itself =
    IsPlaced asked row × IsOnWay state.tree row.channel.id (parent_then asked row)
AgainstChanging state asked row TreeLimit.temporary_parent =
    IsPlaced asked row × IsTemporary state.tree (parent_then asked row)
AgainstChanging state asked row TreeLimit.too_deep =
    IsPlaced asked row × NestsTooDeep state.tree row.channel.id (parent_then asked row)
AgainstChanging state asked row TreeLimit.long_text = 20000 < length (unwrap_or asked.description [])
AgainstChanging state asked row TreeLimit.too_many_links =
    (one : ChannelId)
    × (64 < count_by (starts_at one) (pairs_with_all row.channel.id (links_asked asked row) state.tree.links))
AgainstChanging state asked row limit = ⊥

abbrev pub order_of_changing : List TreeLimit
order_of_changing =
    TreeLimit.fixed_root ∷ TreeLimit.taken_name ∷ TreeLimit.under_itself ∷ TreeLimit.temporary_parent
    ∷ TreeLimit.too_deep ∷ TreeLimit.long_text
    ∷ TreeLimit.too_many_links ∷ []

abbrev pub ChangesAreRefusedForTheFirst : Type 0
ChangesAreRefusedForTheFirst =
    (state : StateValue) (actor : SessionId) (asked : ChannelState) (row : Row) → IsProper state
    → asked.channel_id ≡ Some row.channel.id.0 → row_of state.tree.channels row.channel.id ≡ Some row
    → IsRefusedFor number (AgainstChanging state asked row) order_of_changing (tree_verdict state actor (State asked))

-- ---- a removal, and a policy

abbrev pub AgainstRemoving : ℕ → TreeLimit → Type 0
AgainstRemoving n TreeLimit.fixed_root = n ≡ 0
AgainstRemoving n limit = ⊥

abbrev pub RemovalsAreRefusedForTheFirst : Type 0
RemovalsAreRefusedForTheFirst =
    (state : StateValue) (actor : SessionId) (asked : ChannelRemove) (n : ℕ) → asked.channel_id ≡ Some n
    → IsRefusedFor number (AgainstRemoving n) (TreeLimit.fixed_root ∷ []) (tree_verdict state actor (Remove asked))

-- the groups and the entries that are set; what the message says is inherited is not
abbrev pub groups_set : AclMessage → List AclGroup
groups_set asked = filter (λ group. not (unwrap_or group.inherited false)) asked.groups

abbrev pub lines_set : AclMessage → List AclLine
lines_set asked = filter (λ line. not (unwrap_or line.inherited false)) asked.acls

abbrev pub name_of : AclGroup → List ℕ
name_of group = unwrap_or group.name []

abbrev pub IsLargeGroup : AclGroup → Type 0
IsLargeGroup group = (256 < length group.add) ⊎ (256 < length group.remove)

-- an entry for an account has no group
abbrev pub IsLongLine : AclLine → Type 0
IsLongLine line = (line.user_id ≡ None) × (128 < length (unwrap_or line.group []))

abbrev pub IsLargePolicy : AclMessage → Type 0
IsLargePolicy asked =
    (((64 < length (groups_set asked)) ⊎ (128 < length (lines_set asked)))
    ⊎ ((group : AclGroup) × Contains (groups_set asked) group × IsLargeGroup group))
    ⊎ ((line : AclLine) × Contains (lines_set asked) line × IsLongLine line)

-- of a name that comes again the first place and the second
abbrev pub ComesTwice : List (List ℕ) → Type 0
ComesTwice names =
    (before between after : List (List ℕ)) × (name : List ℕ) × (names ≡ before ++ name ∷ (between ++ name ∷ after))

abbrev pub AgainstRuling : AclMessage → TreeLimit → Type 0
AgainstRuling asked TreeLimit.large_policy = IsLargePolicy asked
AgainstRuling asked TreeLimit.unnamed_group =
    (group : AclGroup) × Contains (groups_set asked) group × (is_name (name_of group) ≡ false)
AgainstRuling asked TreeLimit.doubled_group = ComesTwice (map name_of (groups_set asked))
AgainstRuling asked limit = ⊥

abbrev pub PoliciesAreRefusedForTheFirst : Type 0
PoliciesAreRefusedForTheFirst =
    (state : StateValue) (actor : SessionId) (asked : AclMessage) → unwrap_or asked.query false ≡ false
    → IsRefusedFor number (AgainstRuling asked)
    (TreeLimit.large_policy ∷ TreeLimit.unnamed_group ∷ TreeLimit.doubled_group ∷ [])
    (tree_verdict state actor (Acl asked))
