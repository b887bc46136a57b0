-- For which cause a change of the channels is refused: the first of those that apply.
use Rattle.std.specs.Prelude.{◌≡◌, ◌≢◌, ◌⊎◌, ◌≤◌, ◌<◌, ℕ, ◌+◌, true, false, List, [], ◌∷◌, length, Some, None, unwrap_or}
use Rattle.std.specs.List.{Contains, count_by}
use Rattle.mum_base.specs.declared.number.ChannelId.{ChannelId}
use Rattle.mum_tree.specs.{Change.Change, Change.fault_of_edit, Change.with_change, Proper.IsProper}
use Rattle.mum_tree.specs.{Rows.path, Rows.row_of, State.TreeState, State.are_linked, State.starts_at}
use Rattle.mum_tree.specs.declared.{channel.Row.Row, fault.TreeFault.TreeFault}
use Rattle.mum_tree.specs.declared.fault.TreeFault.TheVariants.{Count, LinkCount, Nesting, NoChannel, RootFixed, SameName, TemporaryParent, UnderItself}
use Rattle.mum_tree.specs.Refusals.{fault_of_add, fault_of_link, fault_of_move, fault_of_remove, fault_of_rename}
use Rattle.mum_part_laws.specs.Firsts.{NamesFirst}

-- ---- what may be against a change

abbrev pub IsAbsent : TreeState → ChannelId → Type 0
IsAbsent tree id = row_of tree.channels id ≡ None

-- another channel than this one, and not the root, is under the parent and has the name
abbrev pub HasName : TreeState → ChannelId → ChannelId → List ℕ → Type 0
HasName tree parent id name =
    (row : Row) × Contains tree.channels row × (row.channel.id.0 ≢ 0) × (row.channel.parent.0 ≡ parent.0)
    × (row.channel.id.0 ≢ id.0) × (row.channel.name ≡ name)

abbrev pub IsTemporary : TreeState → ChannelId → Type 0
IsTemporary tree id = (row : Row) × (row_of tree.channels id ≡ Some row) × (row.channel.temporary ≡ true)

-- the channel is on the way from the root to the other
abbrev pub IsOnWay : TreeState → ChannelId → ChannelId → Type 0
IsOnWay tree id other = (one : ChannelId) × Contains (path tree.channels other) one × (one.0 ≡ id.0)

-- a channel that is this one or below it would be further from the root than 32 steps, under the parent: its way, which has
-- the root at its beginning, gets as much longer as the one to the parent exceeds the one above the channel
abbrev pub NestsTooDeep : TreeState → ChannelId → ChannelId → Type 0
NestsTooDeep tree id parent =
    (row : Row) × Contains tree.channels row × IsOnWay tree id row.channel.id
    × (33 + length (path tree.channels id)
    < length (path tree.channels parent) + 1 + length (path tree.channels row.channel.id))

-- the channel has as many links as it may have
abbrev pub HasAllLinks : TreeState → ChannelId → Type 0
HasAllLinks tree id = 64 ≤ count_by (starts_at id) tree.links

-- ---- a new channel

abbrev pub AgainstNew : TreeState → ChannelId → ChannelId → List ℕ → TreeFault → Type 0
AgainstNew tree id parent name NoChannel = IsAbsent tree parent
AgainstNew tree id parent name SameName = HasName tree parent id name
AgainstNew tree id parent name TemporaryParent = IsTemporary tree parent
AgainstNew tree id parent name Nesting = 33 ≤ length (path tree.channels parent)
AgainstNew tree id parent name Count = tree.limit ≤ length tree.channels
AgainstNew tree id parent name cause = ⊥

abbrev pub NewChannelsNameTheFirst : Type 0
NewChannelsNameTheFirst =
    (tree : TreeState) (id parent : ChannelId) (name : List ℕ)
    → NamesFirst (AgainstNew tree id parent name) (NoChannel ∷ SameName ∷ TemporaryParent ∷ Nesting ∷ Count ∷ [])
    (fault_of_add tree id parent name)

-- ---- a new name

abbrev pub AgainstName : TreeState → ChannelId → List ℕ → TreeFault → Type 0
AgainstName tree id name NoChannel = IsAbsent tree id
AgainstName tree id name RootFixed = id.0 ≡ 0
AgainstName tree id name SameName =
    (row : Row) × (row_of tree.channels id ≡ Some row) × HasName tree row.channel.parent id name
AgainstName tree id name cause = ⊥

abbrev pub NamesNameTheFirst : Type 0
NamesNameTheFirst =
    (tree : TreeState) (id : ChannelId) (name : List ℕ)
    → NamesFirst (AgainstName tree id name) (NoChannel ∷ RootFixed ∷ SameName ∷ []) (fault_of_rename tree id name)

-- ---- a new parent

abbrev pub AgainstParent : TreeState → ChannelId → ChannelId → TreeFault → Type 0
AgainstParent tree id parent NoChannel = IsAbsent tree id ⊎ IsAbsent tree parent
AgainstParent tree id parent RootFixed = id.0 ≡ 0
AgainstParent tree id parent SameName =
    (row : Row) × (row_of tree.channels id ≡ Some row) × HasName tree parent id row.channel.name
AgainstParent tree id parent UnderItself = IsOnWay tree id parent
AgainstParent tree id parent TemporaryParent = IsTemporary tree parent
AgainstParent tree id parent Nesting = NestsTooDeep tree id parent
AgainstParent tree id parent cause = ⊥

abbrev pub MovesNameTheFirst : Type 0
MovesNameTheFirst =
    (tree : TreeState) (id parent : ChannelId)
    → NamesFirst (AgainstParent tree id parent)
    (NoChannel ∷ RootFixed ∷ SameName ∷ UnderItself ∷ TemporaryParent ∷ Nesting ∷ []) (fault_of_move tree id parent)

-- ---- a removal

abbrev pub AgainstRemoval : TreeState → ChannelId → TreeFault → Type 0
AgainstRemoval tree id NoChannel = IsAbsent tree id
AgainstRemoval tree id RootFixed = id.0 ≡ 0
AgainstRemoval tree id cause = ⊥

abbrev pub RemovalsNameTheFirst : Type 0
RemovalsNameTheFirst =
    (tree : TreeState) (id : ChannelId)
    → NamesFirst (AgainstRemoval tree id) (NoChannel ∷ RootFixed ∷ []) (fault_of_remove tree id)

-- ---- a new link

abbrev pub AgainstLink : TreeState → ChannelId → ChannelId → TreeFault → Type 0
AgainstLink tree one other NoChannel = IsAbsent tree one ⊎ IsAbsent tree other
AgainstLink tree one other LinkCount =
    (one.0 ≢ other.0) × (are_linked tree one other ≡ false) × (HasAllLinks tree one ⊎ HasAllLinks tree other)
AgainstLink tree one other cause = ⊥

abbrev pub LinksNameTheFirst : Type 0
LinksNameTheFirst =
    (tree : TreeState) (one other : ChannelId)
    → NamesFirst (AgainstLink tree one other) (NoChannel ∷ LinkCount ∷ []) (fault_of_link tree one other)

-- ---- several parts of a channel

-- the name and the parent that the channel has after the change
abbrev pub name_then : Change → Row → List ℕ
name_then change row = unwrap_or change.name row.channel.name

abbrev pub parent_then : Change → Row → ChannelId
parent_then change row = unwrap_or change.parent row.channel.parent

-- one of them is different
abbrev pub IsPlaced : Change → Row → Type 0
IsPlaced change row = (name_then change row ≢ row.channel.name) ⊎ ((parent_then change row).0 ≢ row.channel.parent.0)

-- the channel itself is not there, or its parent after the change, or one to which it gets a link or loses one
abbrev pub NamesAbsent : TreeState → ChannelId → Change → Type 0
NamesAbsent tree id change =
    ((IsAbsent tree id ⊎ ((row : Row) × (row_of tree.channels id ≡ Some row) × IsAbsent tree (parent_then change row)))
    ⊎ ((other : ChannelId) × Contains change.links_add other × IsAbsent tree other))
    ⊎ ((other : ChannelId) × Contains change.links_remove other × IsAbsent tree other)

-- this holds of the channel, which is there, and its name or its parent changes
abbrev pub OfPlaced : TreeState → ChannelId → Change → (Row → Type 0) → Type 0
OfPlaced tree id change Holds = (row : Row) × (row_of tree.channels id ≡ Some row) × (IsPlaced change row × Holds row)

-- a channel has more than 64 links after the change
abbrev pub Overlinks : TreeState → ChannelId → Change → Type 0
Overlinks tree id change = (one : ChannelId) × (64 < count_by (starts_at one) (with_change tree id change).links)

abbrev pub AgainstChange : TreeState → ChannelId → Change → TreeFault → Type 0
AgainstChange tree id change NoChannel = NamesAbsent tree id change
AgainstChange tree id change RootFixed = OfPlaced tree id change (λ row. id.0 ≡ 0)
AgainstChange tree id change SameName =
    OfPlaced tree id change (λ row. HasName tree (parent_then change row) id (name_then change row))
AgainstChange tree id change UnderItself = OfPlaced tree id change (λ row. IsOnWay tree id (parent_then change row))
AgainstChange tree id change TemporaryParent =
    OfPlaced tree id change (λ row. IsTemporary tree (parent_then change row))
AgainstChange tree id change Nesting = OfPlaced tree id change (λ row. NestsTooDeep tree id (parent_then change row))
AgainstChange tree id change LinkCount = Overlinks tree id change
AgainstChange tree id change cause = ⊥

abbrev pub ChangesNameTheFirst : Type 0
ChangesNameTheFirst =
    (tree : TreeState) (id : ChannelId) (change : Change) → IsProper tree
    → NamesFirst (AgainstChange tree id change)
    (NoChannel ∷ RootFixed ∷ SameName ∷ UnderItself ∷ TemporaryParent ∷ Nesting ∷ LinkCount ∷ [])
    (fault_of_edit tree id change)
