-- Where links lead.
use Rattle.std.specs.Prelude.{◌≡◌, ℕ, zero, suc, ◌==◌, ◌&&◌, ◌||◌, Bool, List, filter, length, map}
use Rattle.std.specs.List.{list_any, Contains}
use Rattle.mum_base.specs.declared.number.ChannelId.{ChannelId}
use Rattle.mum_tree.specs.State.{Pair, TreeState}

-- at most n links, one after the other, lead from a channel to another
unfoldable pub is_reached : List Pair → ℕ → ChannelId → ChannelId → Bool
is_reached links zero from to = from.0 == to.0
is_reached links (suc rounds) from to =
    is_reached links rounds from to
    || list_any (λ pair. (pair.1.0 == to.0) && is_reached links rounds from pair.0) links

-- the channels that links lead to from one, itself among them, in order of number: as many rounds as there are
-- channels find all
abbrev pub linked : TreeState → ChannelId → List ChannelId
linked tree id =
    map (λ row. row.channel.id)
    (filter (λ row. is_reached tree.links (length tree.channels) id row.channel.id) tree.channels)

-- n links, one after the other, lead from a channel to another
abbrev pub Walk : List Pair → ℕ → ChannelId → ChannelId → Type 0
Walk links zero from to = from ≡ to
Walk links (suc steps) from to = (last : ChannelId) × Walk links steps from last × Contains links (last, to)

-- some list of links leads from a channel to another; none leads to the channel itself
abbrev pub LeadTo : List Pair → ChannelId → ChannelId → Type 0
LeadTo links from to = (steps : ℕ) × Walk links steps from to
