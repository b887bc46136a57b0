-- What every tree keeps.
use Rattle.std.specs.Prelude.{◌≡◌, ◌≢◌, ◌<◌, ◌≤◌, false, List, length, Some, codes, IsTrue}
use Rattle.std.specs.List.{count_by, All, AllPairs, Contains}
use Rattle.mum_base.specs.declared.number.{ChannelId.ChannelId, TheConstants.ChannelId.ROOT, TheConstants.PLACES}
use Rattle.mum_tree.specs.declared.{channel.Row.Row, channel.TheConstants.PATH_LIMIT, links.TheConstants.CHANNEL_LINK_LIMIT}
use Rattle.mum_tree.specs.Rows.{number, row_of, is_there, is_temporary, upward, Rise}
use Rattle.mum_tree.specs.State.{Ordered, Pair, TreeState, starts_at}

-- the root: at place 0, under itself, named Root and not temporary
abbrev pub IsRoot : Row → Type 0
IsRoot row =
    (row.place ≡ 0) × (row.channel.parent.0 ≡ ROOT.0) × (row.channel.name ≡ codes "Root") × (row.channel.temporary ≡ false)

-- the root is there
abbrev pub HasRoot : List Row → Type 0
HasRoot rows = (row : Row) × (row_of rows ROOT ≡ Some row) × IsRoot row

-- from each channel parents lead to the root, and no path is longer than it may be
abbrev pub LeadUp : List Row → Type 0
LeadUp rows = (id : ChannelId) → IsTrue (is_there rows id) → Contains (upward rows PATH_LIMIT id) ROOT

-- two channels under one parent have two names
abbrev pub AreApart : Row → Row → Type 0
AreApart row other =
    number row ≢ ROOT.0 → number other ≢ ROOT.0 → row.channel.parent.0 ≡ other.channel.parent.0 →
    row.channel.name ≡ other.channel.name → ⊥

-- the row is the root's, or its parent is not temporary
abbrev pub IsUnderLasting : List Row → Row → Type 0
IsUnderLasting rows row = number row ≢ ROOT.0 → is_temporary rows row.channel.parent ≡ false

-- the pair is of two channels that are there
abbrev pub IsBetween : List Row → Pair → Type 0
IsBetween rows pair = IsTrue (is_there rows pair.0) × IsTrue (is_there rows pair.1) × (pair.0.0 ≢ pair.1.0)

-- each pair is there in the other direction too
abbrev pub AreBothWays : List Pair → Type 0
AreBothWays links = All (λ pair. Contains links (pair.1, pair.0)) links

-- pairs of these channels: each is there once in each direction, in order
pub record ArePairs (rows : List Row) (links : List Pair) : Type 0 where
  pub between : All (IsBetween rows) links
  pub both : AreBothWays links
  pub ordered : Ordered links

-- links between these channels, of which no channel has too many
pub record AreLinks (rows : List Row) (links : List Pair) : Type 0 where
  pub pairs : ArePairs rows links
  pub few_each : (id : ChannelId) → count_by (starts_at id) links ≤ CHANNEL_LINK_LIMIT

-- what every tree keeps, its limits among it
pub record IsProper (tree : TreeState) : Type 0 where
  pub rise : Rise tree.channels
  pub root : HasRoot tree.channels
  pub lead : LeadUp tree.channels
  pub apart : AllPairs AreApart tree.channels
  pub lasting : All (IsUnderLasting tree.channels) tree.channels
  pub places_fit : All (λ row. row.place < tree.limit) tree.channels
  pub places_apart : AllPairs (λ row other. row.place ≢ other.place) tree.channels
  pub few : length tree.channels ≤ tree.limit
  pub known : All (λ row. number row ≤ tree.greatest) tree.channels
  pub joined : AreLinks tree.channels tree.links
  pub limited : tree.limit ≤ PLACES
