-- Changes of kept rows, and those that lead from some rows to others.
use Rattle.std.specs.Prelude.{◌≡◌, ◌≤◌, ◌==◌, ◌&&◌, nat_lt, not, Bool, List, ◌++◌, filter, fold, map, if◌then◌else◌}
use Rattle.std.specs.{List.AllByRecursion, Ordering.int_eq, Str.bytes_eq}
use Rattle.mum_base.specs.declared.number.ChannelId.{ChannelId}
use Rattle.mum_tree.specs.State.{Ordered, Pair, is_above, is_pair}
use Rattle.mum_tree.specs.declared.channel.ChannelInfo.{ChannelInfo}
use Rattle.mum_kept.specs.declared.rows.{KeptChannel.KeptChannel, KeptRows.KeptRows}
use Rattle.mum_keeper.specs.Order.{Rise, any_like, unmatched, with_row}
use Rattle.mum_keeper.specs.declared.change.Change.{Change}
use Rattle.mum_keeper.specs.declared.change.Change.TheVariants as changes

-- ---- the order of rows

-- the order in which channels are kept: by their numbers
abbrev pub channel_before : KeptChannel → KeptChannel → Bool
channel_before channel other = nat_lt channel.id.0 other.id.0

-- the order in which links are kept: by their first channel, then by their second
abbrev pub link_before : Pair → Pair → Bool
link_before pair other = is_above pair.0 pair.1 other

-- the channels rise by their numbers, and so do the links, each with the lesser channel first
pub record AreInOrder (rows : KeptRows) : Type 0 where
  pub channels : Rise channel_before rows.channels
  pub links : Ordered rows.links
  pub lesser_first : AllByRecursion (λ pair. pair.0.0 ≤ pair.1.0) rows.links

-- ---- one change

-- the link between two channels
abbrev pub link_of : ChannelId → ChannelId → Pair
link_of one other = if nat_lt other.0 one.0 then (other, one) else (one, other)

abbrev pub without_channel : ChannelId → List KeptChannel → List KeptChannel
without_channel id channels = filter (λ channel. not (channel.id.0 == id.0)) channels

abbrev pub without_link : Pair → List Pair → List Pair
without_link pair links = filter (λ other. not (is_pair pair.0 pair.1 other)) links

-- the rows after one change; to drop or unlink what is not there changes nothing
abbrev pub made : Change → KeptRows → KeptRows
made (changes.Put channel) rows = record rows { channels = with_row channel_before channel rows.channels }
made (changes.Drop id) rows = record rows { channels = without_channel id rows.channels }
made (changes.Link one other) rows = record rows { links = with_row link_before (link_of one other) rows.links }
made (changes.Unlink one other) rows = record rows { links = without_link (link_of one other) rows.links }

-- the rows after all these changes, one after another
abbrev pub all_made : List Change → KeptRows → KeptRows
all_made list rows = fold (λ so_far change. made change so_far) rows list

-- ---- the difference of rows

-- two channels have the same description, position and user limit
abbrev pub is_same_info : ChannelInfo → ChannelInfo → Bool
is_same_info info other =
    bytes_eq info.description other.description && int_eq info.position other.position
    && (info.max_users == other.max_users)

-- two rows of channels of one number are the same
abbrev pub is_same_channel : KeptChannel → KeptChannel → Bool
is_same_channel channel other =
    (channel.parent.0 == other.parent.0) && bytes_eq channel.name other.name && is_same_info channel.info other.info
    && bytes_eq channel.policy other.policy

-- the changes after which a row is gone, and after which it is there
abbrev pub drop_of : KeptChannel → Change
drop_of channel = changes.Drop channel.id

abbrev pub put_of : KeptChannel → Change
put_of channel = changes.Put channel

abbrev pub unlink_of : Pair → Change
unlink_of pair = changes.Unlink pair.0 pair.1

abbrev pub linked_by : Pair → Change
linked_by pair = changes.Link pair.0 pair.1

-- the changes that lead from the old rows to the new ones: links that are gone, channels that are gone, channels that
-- are new or changed, links that are new
abbrev pub difference : KeptRows → KeptRows → List Change
difference old new =
    map unlink_of (unmatched link_before any_like old.links new.links)
    ++ map drop_of (unmatched channel_before any_like old.channels new.channels)
    ++ map put_of (unmatched channel_before is_same_channel new.channels old.channels)
    ++ map linked_by (unmatched link_before any_like new.links old.links)

-- made one after another, they do, where both rows are in order
abbrev pub LeadsOver : Type 0
LeadsOver = (old new : KeptRows) → AreInOrder old → AreInOrder new → all_made (difference old new) old ≡ new
