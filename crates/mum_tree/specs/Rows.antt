-- The rows of a tree: its channels in order of number, each with the place that it keeps.
use Rattle.std.specs.Prelude.{◌≡◌, ℕ, zero, suc, ◌+◌, ◌<◌, ◌==◌, ◌&&◌, Bool, false, not, nat_lt, List, [], ◌∷◌, ◌++◌, reverse, length, Option, None, is_some, slice_index_or, IfSome, if◌then◌else◌, IsTrue}
use Rattle.std.specs.List.{find, list_any, position, All, AllPairs}
use Rattle.std.specs.{Option.option_map_or, Str.bytes_eq}
use Rattle.mum_base.specs.declared.number.{ChannelId.ChannelId, TheConstants.ChannelId.ROOT}
use Rattle.mum_tree.specs.declared.channel.{Row.Row, TheConstants.PATH_LIMIT}

-- the number of the row's channel
abbrev pub number : Row → ℕ
number row = row.channel.id.0

-- the number is that of the root
abbrev pub is_root : ChannelId → Bool
is_root id = id.0 == ROOT.0

-- the row of a channel
abbrev pub row_of : List Row → ChannelId → Option Row
row_of rows id = find (λ row. number row == id.0) rows

-- the channel is there
abbrev pub is_there : List Row → ChannelId → Bool
is_there rows id = is_some (row_of rows id)

-- the channel is there and temporary
abbrev pub is_temporary : List Row → ChannelId → Bool
is_temporary rows id = option_map_or (λ row. row.channel.temporary) (row_of rows id) false

-- from a channel up, in at most n steps: the channel, its parent, and so on to the root
unfoldable pub upward : List Row → ℕ → ChannelId → List ChannelId
upward rows zero id = []
upward rows (suc steps) id =
    option_map_or (λ row. id ∷ (if is_root id then [] else upward rows steps row.channel.parent)) (row_of rows id) []

-- from the root down to a channel
abbrev pub path : List Row → ChannelId → List ChannelId
path rows id = reverse (upward rows PATH_LIMIT id)

-- the channels lead down to this one: the root is the first, this one the last, and all are there
pub record IsWay (rows : List Row) (id : ChannelId) (way : List ChannelId) : Type 0 where
  pub begins : (rest : List ChannelId) × (way ≡ ROOT ∷ rest)
  pub ends : (above : List ChannelId) × (way ≡ above ++ id ∷ [])
  pub there : All (λ channel. IsTrue (is_there rows channel)) way

-- the channel is the top, or below it
abbrev pub is_below : List Row → ChannelId → ChannelId → Bool
is_below rows top id = list_any (λ channel. channel.0 == top.0) (path rows id)

-- how many steps a channel is under the top, if it is the top or below it
abbrev pub level : List Row → ChannelId → ChannelId → Option ℕ
level rows top id = position (λ channel. channel.0 == top.0) (upward rows PATH_LIMIT id)

-- what is kept at the places of these rows is right
abbrev pub AreLevels : List Row → ChannelId → List (Option (Option ℕ)) → Type 0
AreLevels rows top known =
    All (λ row. IfSome (slice_index_or known row.place None) (λ steps. steps ≡ level rows top row.channel.id)) rows

-- the row is the moved channel's or below it, and under the parent its path would be too long
abbrev pub nests : List Row → ChannelId → ChannelId → Row → Bool
nests rows id parent row =
    is_below rows id row.channel.id
    && nat_lt (PATH_LIMIT + length (path rows id))
    (length (path rows parent) + 1 + length (path rows row.channel.id))

-- the row is of another child of the parent, and has the name; the root is the child of none
abbrev pub has_name_beside : ChannelId → ChannelId → List ℕ → Row → Bool
has_name_beside parent id name row =
    not (is_root row.channel.id) && (row.channel.parent.0 == parent.0) && not (number row == id.0)
    && bytes_eq row.channel.name name

-- another child of the parent has the name
abbrev pub is_taken : List Row → ChannelId → ChannelId → List ℕ → Bool
is_taken rows parent id name = list_any (has_name_beside parent id name) rows

-- the numbers rise
abbrev pub Rise : List Row → Type 0
Rise rows = AllPairs (λ row later. number row < number later) rows
