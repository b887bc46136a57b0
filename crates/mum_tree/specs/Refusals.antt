-- For what each change of a tree is refused: the first cause that applies.
use Rattle.std.specs.Prelude.{ℕ, ◌==◌, ◌&&◌, ◌||◌, not, nat_le, Bool, List, [], length, Option, Some, None, if◌then◌else◌}
use Rattle.std.specs.{List.list_any, Option.option_map_or}
use Rattle.mum_base.specs.declared.number.ChannelId.{ChannelId}
use Rattle.mum_tree.specs.declared.{channel.TheConstants.PATH_LIMIT, fault.TreeFault.TreeFault}
use Rattle.mum_tree.specs.declared.links.TheConstants.{CHANNEL_LINK_LIMIT}
use Rattle.mum_tree.specs.declared.fault.TreeFault.TheVariants.{NoChannel, SameName, UnderItself, Nesting, Count, RootFixed, TemporaryParent, LinkCount}
use Rattle.mum_tree.specs.Rows.{row_of, is_root, is_there, is_temporary, is_taken, is_below, nests, path}
use Rattle.mum_tree.specs.State.{TreeState, are_linked, partners}

-- there are as many channels as the limit allows
abbrev pub is_full : TreeState → Bool
is_full tree = nat_le tree.limit (length tree.channels)

-- the name of a channel; none where it is not there
abbrev pub name_of : TreeState → ChannelId → List ℕ
name_of tree id = option_map_or (λ row. row.channel.name) (row_of tree.channels id) []

-- the parent of a channel; itself where it is not there
abbrev pub parent_of : TreeState → ChannelId → ChannelId
parent_of tree id = option_map_or (λ row. row.channel.parent) (row_of tree.channels id) id

-- why a new channel under the parent is refused
abbrev pub fault_of_add : TreeState → ChannelId → ChannelId → List ℕ → Option TreeFault
fault_of_add tree id parent name =
    if not (is_there tree.channels parent) then Some NoChannel
    else if is_taken tree.channels parent id name then Some SameName
    else if is_temporary tree.channels parent then Some TemporaryParent
    else if nat_le PATH_LIMIT (length (path tree.channels parent)) then Some Nesting
    else if is_full tree then Some Count
    else None

-- why a new name is refused
abbrev pub fault_of_rename : TreeState → ChannelId → List ℕ → Option TreeFault
fault_of_rename tree id name =
    if not (is_there tree.channels id) then Some NoChannel
    else if is_root id then Some RootFixed
    else if is_taken tree.channels (parent_of tree id) id name then Some SameName
    else None

-- why a new description is refused
abbrev pub fault_of_set_info : TreeState → ChannelId → Option TreeFault
fault_of_set_info tree id = if not (is_there tree.channels id) then Some NoChannel else None

-- the first cause against a new name or a new parent of a channel, given both
abbrev pub fault_of_placement : TreeState → ChannelId → List ℕ → ChannelId → Option TreeFault
fault_of_placement tree id name parent =
    if is_root id then Some RootFixed
    else if is_taken tree.channels parent id name then Some SameName
    else if is_below tree.channels id parent then Some UnderItself
    else if is_temporary tree.channels parent then Some TemporaryParent
    else if list_any (nests tree.channels id parent) tree.channels then Some Nesting
    else None

-- why a new parent is refused
abbrev pub fault_of_move : TreeState → ChannelId → ChannelId → Option TreeFault
fault_of_move tree id parent =
    if not (is_there tree.channels id && is_there tree.channels parent) then Some NoChannel
    else fault_of_placement tree id (name_of tree id) parent

-- why a removal is refused
abbrev pub fault_of_remove : TreeState → ChannelId → Option TreeFault
fault_of_remove tree id =
    if not (is_there tree.channels id) then Some NoChannel
    else if is_root id then Some RootFixed
    else None

-- why a link is refused: none that is there already, or of a channel to itself
abbrev pub fault_of_link : TreeState → ChannelId → ChannelId → Option TreeFault
fault_of_link tree a b =
    if not (is_there tree.channels a && is_there tree.channels b) then Some NoChannel
    else if (a.0 == b.0) || are_linked tree a b then None
    else if nat_le CHANNEL_LINK_LIMIT (length (partners tree a))
    || nat_le CHANNEL_LINK_LIMIT (length (partners tree b)) then Some LinkCount
    else None

-- why the removal of a link is refused
abbrev pub fault_of_unlink : TreeState → ChannelId → ChannelId → Option TreeFault
fault_of_unlink tree a b = if not (is_there tree.channels a && is_there tree.channels b) then Some NoChannel else None
