-- The channels by their parents.
use Rattle.std.specs.Prelude.{◌==◌, not, nat_le, Bool, List, filter, map}
use Rattle.mum_base.specs.declared.number.ChannelId.{ChannelId}
use Rattle.mum_tree.specs.{Refusals.parent_of, Rows.is_root, State.TreeState}
use Rattle.mum_notify.specs.declared.children.Child.{Child}

abbrev pub child_of : TreeState → ChannelId → Child
child_of tree id = record { parent = parent_of tree id; id = id }

-- of these channels each but the root, with its parent
abbrev pub children_of : TreeState → List ChannelId → List Child
children_of tree ids = map (child_of tree) (filter (λ id. not (is_root id)) ids)

abbrev pub is_under : ChannelId → Child → Bool
is_under parent child = child.parent.0 == parent.0

-- by the numbers of their parents
abbrev pub is_not_after : Child → Child → Bool
is_not_after child other = nat_le child.parent.0 other.parent.0

abbrev pub children_in : List Child → ChannelId → List ChannelId
children_in listed parent = map (λ child. child.id) (filter (is_under parent) listed)
