-- Which rows describe the channels of a server.
use Rattle.std.specs.Prelude.{◌≡◌, ℕ, ◌<◌, ◌≤◌, ◌==◌, ◌&&◌, ◌||◌, ◌⊎◌, nat_lt, Bool, List, [], ◌∷◌, codes, length, map, unwrap_or, if◌then◌else◌, IsTrue}
use Rattle.std.specs.{Borrow.Bor, Map.lookup, Str.bytes_eq}
use Rattle.std.specs.List.{count_by, list_all, All, AllPairs}
use Rattle.mum_base.specs.Channels.{is_among}
use Rattle.mum_base.specs.declared.number.{ChannelId.ChannelId, TheConstants.PLACES, TheConstants.ChannelId.ROOT}
use Rattle.mum_tree.specs.declared.{channel.Row.Row, channel.TheConstants.PATH_LIMIT, links.TheConstants.CHANNEL_LINK_LIMIT}
use Rattle.mum_tree.specs.{Proper.AreApart, Proper.HasRoot, Proper.LeadUp, State.Ordered, State.Pair}
use Rattle.mum_tree.specs.Rows.{is_root, is_there, upward, Rise}
use Rattle.mum_state.specs.Proper.{is_name, is_text}
use Rattle.mum_kept.specs.declared.rows.{KeptChannel.KeptChannel, KeptRows.KeptRows}
use Rattle.mum_kept.specs.{Policy.holds_policy, Rows.is_top, Rows.tree_rows}

-- its name is one by the rules for names
abbrev pub has_name : KeptChannel → Bool
has_name channel = is_name channel.name

-- its description is within the limit of texts
abbrev pub has_text : KeptChannel → Bool
has_text channel = is_text channel.info.description

-- its policy is the payload of one that this channel may have
abbrev pub has_policy : KeptChannel → Bool
has_policy channel = holds_policy channel.id channel.policy

-- the link is one of the channel's
abbrev pub is_end : ℕ → Pair → Bool
is_end channel pair = (pair.0.0 == channel) || (pair.1.0 == channel)

abbrev pub is_link_of : ChannelId → Pair → Bool
is_link_of id pair = is_end id.0 pair

-- the link is of two channels that are there, the lesser first
abbrev pub JoinsTwo : List Row → Pair → Type 0
JoinsTwo rows pair = IsTrue (is_there rows pair.0) × IsTrue (is_there rows pair.1) × (pair.0.0 < pair.1.0)

-- the rows of channels, one condition a field; the links are a list of their own
pub record AreGoodChannels (channels : List KeptChannel) : Type 0 where
  pub few : length channels ≤ PLACES
  pub rising : Rise (tree_rows channels)
  -- it is named Root, and is under itself
  pub root : HasRoot (tree_rows channels)
  -- within 32 steps
  pub parents : LeadUp (tree_rows channels)
  pub names : IsTrue (list_all has_name channels)
  pub siblings : AllPairs AreApart (tree_rows channels)
  pub texts : IsTrue (list_all has_text channels)
  pub policies : IsTrue (list_all has_policy channels)

-- the rows of links between these channels, one condition a field
pub record AreGoodLinks (rows : List Row) (links : List Pair) : Type 0 where
  pub between : All (JoinsTwo rows) links
  -- each once
  pub rising : Ordered links
  pub few_each : (id : ChannelId) → count_by (is_link_of id) links ≤ CHANNEL_LINK_LIMIT

-- the rows of channels that a server may have
abbrev pub IsTree : KeptRows → Type 0
IsTree rows = AreGoodChannels rows.channels × AreGoodLinks (tree_rows rows.channels) rows.links

-- nothing is kept
abbrev pub AreNone : KeptRows → Type 0
AreNone rows = (rows.channels ≡ []) × (rows.links ≡ [])

-- the rows can be kept: there are none, or they are of channels that a server may have
abbrev pub IsGood : KeptRows → Type 0
IsGood rows = AreNone rows ⊎ IsTree rows

-- ---- the same, test by test

-- the channel is under the root, and its name is Root
abbrev pub is_named_root : KeptChannel → Bool
is_named_root channel = is_root channel.parent && bytes_eq channel.name (codes "Root")

-- parents lead from the channel to the root, within 32 steps
abbrev pub leads_up : List Row → ChannelId → Bool
leads_up rows id = is_among (upward rows PATH_LIMIT id) ROOT

-- parents lead from each to the root, and their names and descriptions are as they may be
abbrev pub are_sound : List KeptChannel → Bool
are_sound channels =
    list_all (λ channel. leads_up (tree_rows channels) channel.id) channels && list_all has_name channels
    && list_all has_text channels

-- the conditions on channels that no memory is needed for
pub record AreShaped (channels : List KeptChannel) : Type 0 where
  pub few : length channels ≤ PLACES
  pub rising : Rise (tree_rows channels)
  pub root : HasRoot (tree_rows channels)
  pub parents : LeadUp (tree_rows channels)
  pub names : IsTrue (list_all has_name channels)
  pub texts : IsTrue (list_all has_text channels)

-- the parent of a channel, and its name
abbrev pub Seat : Type 0
Seat = ℕ × List ℕ

abbrev pub seat_of : KeptChannel → Seat
seat_of channel = (channel.parent.0, channel.name)

-- the root has none
abbrev pub seats_taken : KeptChannel → List Seat
seats_taken channel = if is_top channel then [] else seat_of channel ∷ []

abbrev pub is_seat : Seat → Seat → Bool
is_seat seat other = (seat.0 == other.0) && bytes_eq seat.1 other.1

-- seats, as the code has them
abbrev pub seats_of : List (ℕ × Bor (List ℕ)) → List Seat
seats_of keys = map (λ seat. (seat.0, seat.1.now)) keys

abbrev pub joins_two : List Row → Pair → Bool
joins_two rows pair = is_there rows pair.0 && is_there rows pair.1 && nat_lt pair.0.0 pair.1.0

-- how many links of a channel are counted
abbrev pub count_at : List (ℕ × ℕ) → ℕ → ℕ
count_at counts channel = unwrap_or (lookup (λ kept. channel == kept) counts) 0
