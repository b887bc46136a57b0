-- A tree as plain data, and what each change of it leaves.
use Rattle.std.specs.Prelude.{ℕ, ◌+◌, ◌-◌, ◌^◌, nat_lt, Option, Some, None, ◌==◌, ◌&&◌, ◌||◌, not, Bool, false, List, [], ◌∷◌, ◌++◌, map, pos, codes, if◌then◌else◌, IsTrue}
use Rattle.std.specs.List.{filter, list_any, AllPairs}
use Rattle.mum_base.specs.declared.number.{ChannelId.ChannelId, TheConstants.ChannelId.ROOT}
use Rattle.mum_tree.specs.declared.channel.{Channel.Channel, ChannelInfo.ChannelInfo, Row.Row}
use Rattle.mum_tree.specs.declared.channel.TheConstants.{CHANNEL_LIMIT}
use Rattle.mum_tree.specs.{Places.least_place, Rows.is_below, Rows.is_there, Rows.number}

-- the channels, their links, and what numbers and places depend on
pub record TreeState : Type 0 where
  -- in order of number
  pub channels : List Row
  -- each link in both directions, in order of the numbers
  pub links : List (ChannelId × ChannelId)
  -- the greatest number that a channel ever had
  pub greatest : ℕ
  -- the most channels that there may be, with the root
  pub limit : ℕ

-- no description, no place among its siblings, no limit of users
abbrev pub plain_info : ChannelInfo
plain_info = record { description = []; position = pos 0; max_users = 0 }

-- a channel at its place, with nothing to describe it
abbrev pub new_row : ℕ → ChannelId → ChannelId → List ℕ → Bool → Row
new_row place id parent name temporary = record {
  place = place;
  channel = record { id = id; parent = parent; name = name; temporary = temporary; info = plain_info };
}

-- the root alone, under the limit of a new tree
abbrev pub root_alone : TreeState
root_alone = record {
  channels = new_row 0 ROOT ROOT (codes "Root") false ∷ [];
  links = [];
  greatest = 0;
  limit = CHANNEL_LIMIT;
}

-- one row more, after the others
abbrev pub with_row : TreeState → Row → TreeState
with_row tree row = record tree { channels = tree.channels ++ row ∷ []; greatest = number row }

-- one channel more, at the least place that no channel has
abbrev pub with_new : TreeState → ChannelId → ChannelId → List ℕ → Bool → TreeState
with_new tree id parent name temporary = with_row tree (new_row (least_place tree.channels) id parent name temporary)

-- the channel changed, and no other
abbrev pub changed : ChannelId → (Channel → Channel) → List Row → List Row
changed id change rows =
    map (λ row. if number row == id.0 then record row { channel = change row.channel } else row) rows

-- one channel changed
abbrev pub with_channel : TreeState → ChannelId → (Channel → Channel) → TreeState
with_channel tree id change = record tree { channels = changed id change tree.channels }

-- a new name of a channel
abbrev pub with_name : TreeState → ChannelId → List ℕ → TreeState
with_name tree id name = with_channel tree id (λ channel. record channel { name = name })

-- a new description of a channel
abbrev pub with_info : TreeState → ChannelId → ChannelInfo → TreeState
with_info tree id info = with_channel tree id (λ channel. record channel { info = info })

-- a new parent of a channel
abbrev pub with_parent : TreeState → ChannelId → ChannelId → TreeState
with_parent tree id parent = with_channel tree id (λ channel. record channel { parent = parent })

-- one above the greatest number ever used, while numbers of 32 bits last
abbrev pub next_number : TreeState → Option ChannelId
next_number tree = if nat_lt tree.greatest (2 ^ 32 - 1) then Some (record { 0 = tree.greatest + 1 }) else None

-- a link in one direction
abbrev pub Pair : Type 0
Pair = ChannelId × ChannelId

-- the pair is from the one to the other
abbrev pub is_pair : ChannelId → ChannelId → Pair → Bool
is_pair from to pair = (pair.0.0 == from.0) && (pair.1.0 == to.0)

-- the pair is from the channel
abbrev pub starts_at : ChannelId → Pair → Bool
starts_at id pair = pair.0.0 == id.0

-- a link joins the two
abbrev pub are_linked : TreeState → ChannelId → ChannelId → Bool
are_linked tree from to = list_any (is_pair from to) tree.links

-- where the pairs of a channel lead
abbrev pub ends_from : ChannelId → List Pair → List ChannelId
ends_from id pairs = map (λ pair. pair.1) (filter (starts_at id) pairs)

-- the channels linked to one by a pair, in order of number
abbrev pub partners : TreeState → ChannelId → List ChannelId
partners tree id = ends_from id tree.links

-- the pair is after the one from the first to the second
abbrev pub is_above : ChannelId → ChannelId → Pair → Bool
is_above from to pair = nat_lt from.0 pair.0.0 || ((pair.0.0 == from.0) && nat_lt to.0 pair.1.0)

-- each pair is below those after it
abbrev pub Ordered : List Pair → Type 0
Ordered links = AllPairs (λ pair later. IsTrue (is_above pair.0 pair.1 later)) links

-- a pair in its place among others
abbrev pub with_pair : ChannelId → ChannelId → List Pair → List Pair
with_pair from to [] = (from, to) ∷ []
with_pair from to (pair ∷ pairs) =
    if is_above from to pair then (from, to) ∷ pair ∷ pairs else pair ∷ with_pair from to pairs

-- a link more, in both directions; one of a channel to itself, or that is there, changes nothing
abbrev pub pairs_with : ChannelId → ChannelId → List Pair → List Pair
pairs_with a b pairs =
    if (a.0 == b.0) || list_any (is_pair a b) pairs then pairs else with_pair b a (with_pair a b pairs)

-- a link less
abbrev pub pairs_without : ChannelId → ChannelId → List Pair → List Pair
pairs_without a b pairs = filter (λ pair. not (is_pair a b pair || is_pair b a pair)) pairs

-- a link more between two channels
abbrev pub with_link : TreeState → ChannelId → ChannelId → TreeState
with_link tree a b = record tree { links = pairs_with a b tree.links }

-- a link less between two channels
abbrev pub without_link : TreeState → ChannelId → ChannelId → TreeState
without_link tree a b = record tree { links = pairs_without a b tree.links }

-- a channel and all below it: those whose path holds it
abbrev pub below : TreeState → ChannelId → List ChannelId
below tree top = map (λ row. row.channel.id) (filter (λ row. is_below tree.channels top row.channel.id) tree.channels)

-- these rows alone, and the links between them
abbrev pub without_rows : TreeState → List Row → TreeState
without_rows tree kept = record {
  channels = kept;
  links = filter (λ pair. is_there kept pair.0 && is_there kept pair.1) tree.links;
  greatest = tree.greatest;
  limit = tree.limit;
}

-- without a channel and all below it, and without their links
abbrev pub without_subtree : TreeState → ChannelId → TreeState
without_subtree tree top =
    without_rows tree (filter (λ row. not (is_below tree.channels top row.channel.id)) tree.channels)
