-- Kept rows as the tree of channels that they describe.
use Rattle.std.specs.Prelude.{not, Bool, false, List, [], filter, map}
use Rattle.mum_base.specs.declared.number.TheConstants.{PLACES}
use Rattle.mum_tree.specs.declared.channel.Row.{Row}
use Rattle.mum_tree.specs.{Rows.is_root, State.Pair, State.TreeState}
use Rattle.mum_kept.specs.declared.rows.KeptChannel.{KeptChannel}

-- the channel as a row of a tree; no place is kept, and 0 is there
abbrev pub tree_row : KeptChannel → Row
tree_row kept = record {
  place = 0;
  channel = record { id = kept.id; parent = kept.parent; name = kept.name; temporary = false; info = kept.info };
}

abbrev pub tree_rows : List KeptChannel → List Row
tree_rows channels = map tree_row channels

-- the channels as a tree; their links, which no order of channels depends on, are left out
abbrev pub tree_of : List KeptChannel → TreeState
tree_of channels = record { channels = tree_rows channels; links = []; greatest = 0; limit = PLACES }

-- ---- by their parents

abbrev pub is_top : KeptChannel → Bool
is_top channel = is_root channel.id

-- the channels but the root
abbrev pub below_root : List KeptChannel → List KeptChannel
below_root channels = filter (λ channel. not (is_top channel)) channels

-- each of them after its parent
abbrev pub children_of : List KeptChannel → List Pair
children_of channels = map (λ channel. (channel.parent, channel.id)) (below_root channels)
