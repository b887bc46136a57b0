-- A change of a channel in several parts at once: what it leaves, and for what it is refused.
use Rattle.std.specs.Prelude.{ℕ, ℤ, ◌==◌, ◌&&◌, ◌||◌, not, nat_le, nat_lt, Bool, List, [], ◌∷◌, length, Option, Some, None, count_by, if◌then◌else◌}
use Rattle.std.specs.{List.list_all, List.list_any, Option.option_copied, Option.option_map_or, Str.bytes_eq}
use Rattle.mum_base.specs.Channels.{is_among}
use Rattle.mum_base.specs.declared.number.ChannelId.{ChannelId}
use Rattle.mum_tree.specs.declared.{change.ChannelChange.ChannelChange, channel.Channel.Channel}
use Rattle.mum_tree.specs.declared.fault.TreeFault.{TreeFault, TheVariants.NoChannel, TheVariants.LinkCount}
use Rattle.mum_tree.specs.declared.links.TheConstants.{CHANNEL_LINK_LIMIT}
use Rattle.mum_tree.specs.{Refusals.fault_of_placement, Refusals.name_of, Refusals.parent_of, Rows.is_there}
use Rattle.mum_tree.specs.State.{Pair, TreeState, are_linked, changed, pairs_with, pairs_without, partners}

-- the new values, as far as they are given, and the links that come and go
pub record Change : Type 0 where
  pub name : Option (List ℕ)
  pub parent : Option ChannelId
  pub description : Option (List ℕ)
  pub position : Option ℤ
  pub max_users : Option ℕ
  pub links_add : List ChannelId
  pub links_remove : List ChannelId

-- a change as plain data, without its borrows
abbrev pub change_of : ChannelChange → Change
change_of change = record {
  name = option_copied change.name;
  parent = change.parent;
  description = option_copied change.description;
  position = change.position;
  max_users = change.max_users;
  links_add = change.links_add.now;
  links_remove = change.links_remove.now;
}

-- what is given, or else what was
abbrev pub given_or : {X : Type 0} → Option X → X → X
given_or given before = option_map_or (λ value. value) given before

-- the channel with what is given
abbrev pub with_given : Change → Channel → Channel
with_given change channel = record channel {
  name = given_or change.name channel.name;
  parent = given_or change.parent channel.parent;
  info = record {
    description = given_or change.description channel.info.description;
    position = given_or change.position channel.info.position;
    max_users = given_or change.max_users channel.info.max_users;
  };
}

-- a link more to each of these channels
abbrev pub pairs_with_all : ChannelId → List ChannelId → List Pair → List Pair
pairs_with_all id [] pairs = pairs
pairs_with_all id (other ∷ others) pairs = pairs_with_all id others (pairs_with id other pairs)

-- a link less to each of these channels
abbrev pub pairs_without_all : ChannelId → List ChannelId → List Pair → List Pair
pairs_without_all id [] pairs = pairs
pairs_without_all id (other ∷ others) pairs = pairs_without_all id others (pairs_without id other pairs)

-- the link of a channel to another, as a change leaves it: gone where it goes, else there where it comes
abbrev pub pairs_set : ChannelId → ChannelId → Bool → Bool → List Pair → List Pair
pairs_set id other comes goes pairs =
    if goes then pairs_without id other pairs else if comes
    && not (other.0 == id.0) then pairs_with id other pairs else pairs

-- what is given is set; then the links that come are there, and then those that go are gone
abbrev pub with_change : TreeState → ChannelId → Change → TreeState
with_change tree id change = record {
  channels = changed id (with_given change) tree.channels;
  links = pairs_without_all id change.links_remove (pairs_with_all id change.links_add tree.links);
  greatest = tree.greatest;
  limit = tree.limit;
}

-- the name that the channel has after the change
abbrev pub name_after : TreeState → ChannelId → Change → List ℕ
name_after tree id change = given_or change.name (name_of tree id)

-- the parent that the channel has after the change
abbrev pub parent_after : TreeState → ChannelId → Change → ChannelId
parent_after tree id change = given_or change.parent (parent_of tree id)

-- each channel that the change names is there
abbrev pub names_there : TreeState → ChannelId → Change → Bool
names_there tree id change =
    is_there tree.channels id && is_there tree.channels (parent_after tree id change) &&
    list_all (is_there tree.channels) change.links_add && list_all (is_there tree.channels) change.links_remove

-- the name or the parent changes
abbrev pub renames_or_moves : TreeState → ChannelId → Change → Bool
renames_or_moves tree id change =
    not (bytes_eq (name_after tree id change) (name_of tree id))
    || not ((parent_after tree id change).0 == (parent_of tree id).0)

-- the channel is linked to the other after the change
abbrev pub is_partner_after : TreeState → ChannelId → Change → ChannelId → Bool
is_partner_after tree id change other =
    (are_linked tree id other || (is_among change.links_add other && not (other.0 == id.0)))
    && not (is_among change.links_remove other)

-- it is, and was not before
abbrev pub is_new_partner : TreeState → ChannelId → Change → ChannelId → Bool
is_new_partner tree id change other = is_partner_after tree id change other && not (are_linked tree id other)

-- the channel has too many links after the change, or a new partner has all that it may have before
abbrev pub overlinks : TreeState → ChannelId → Change → Bool
overlinks tree id change =
    nat_lt CHANNEL_LINK_LIMIT (count_by (λ row. is_partner_after tree id change row.channel.id) tree.channels) ||
    list_any (λ row. is_new_partner tree id change row.channel.id
    && nat_le CHANNEL_LINK_LIMIT (length (partners tree row.channel.id))) tree.channels

-- a channel that is not there, then a cause against a new name or parent, then too many links
abbrev pub fault_of_edit : TreeState → ChannelId → Change → Option TreeFault
fault_of_edit tree id change =
    if not (names_there tree id change) then Some NoChannel
    else option_map_or (λ fault. Some fault)
    (if renames_or_moves tree id change then fault_of_placement tree id (name_after tree id change)
    (parent_after tree id change) else None)
    (if overlinks tree id change then Some LinkCount else None)
