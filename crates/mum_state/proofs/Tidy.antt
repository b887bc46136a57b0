-- What belongs to channels belongs to channels that are there, so nothing goes where none is emptied.
use Rattle.mum_state.proofs.Common.{◌≡◌, ◌&&◌, not, Bool, true, false, List, map, ap, ◌∙◌, filter, and_from, ChannelId, Row, is_there, Pair, without_rows, ListenerPair, empties, without_emptied, IsProper, with_tree, PolicyRow, StateValue}
use Rattle.mum_state.proofs.{Each.Each, Each.each_from_all, Each.each_passes, Each.each_so, Each.filter_stays, Ways.edge, Ways.governed_where_proper, Ways.rows_kept, Ways.starts_edge, Ways.there_by_edge}

-- the links, the policies and the listeners are of channels that are there
pub record AreTidy (rows : List Row) (links : List Pair) (policies : List PolicyRow) (listeners : List ListenerPair) : Type 0 where
  pub linked : Each (λ pair. (is_there rows pair.0 && is_there rows pair.1) ≡ true) links
  pub governed : Each (λ row. is_there rows row.channel ≡ true) policies
  pub listening : Each (λ pair. is_there rows pair.channel ≡ true) listeners

abbrev pub IsTidy : StateValue → Type 0
IsTidy state = AreTidy state.tree.channels state.tree.links state.policies state.roster.listeners

pub tidy_where_proper : (state : StateValue) → IsProper state → IsTidy state
tidy_where_proper state proper =
    let rows : List Row = state.tree.channels in
    record {
      linked = each_from_all (λ (pair : Pair). (is_there rows pair.0 && is_there rows pair.1) ≡ true) state.tree.links
          (λ k d within. let ends = proper.tree.joined.pairs.between k d within in and_from _ _ ends.0 ends.1);
      governed = each_so (λ (row : PolicyRow). starts_edge (map edge rows) row.channel ≡ true) (λ row. is_there rows row.channel ≡ true)
          (λ row here. there_by_edge rows row.channel ∙ here) state.policies (governed_where_proper state proper);
      listening = each_passes (λ pair. is_there rows pair.channel) state.roster.listeners proper.listening;
    }

-- the same of rows of the same numbers
pub tidy_by_numbers : (rows others : List Row) (links : List Pair) (policies : List PolicyRow) (listeners : List ListenerPair)
    → ((id : ChannelId) → is_there others id ≡ is_there rows id) → AreTidy rows links policies listeners → AreTidy others links policies listeners
tidy_by_numbers rows others links policies listeners same tidy = record {
  linked = each_so (λ (pair : Pair). (is_there rows pair.0 && is_there rows pair.1) ≡ true) (λ pair. (is_there others pair.0 && is_there others pair.1) ≡ true)
      (λ pair here. ap (λ (b : Bool). b && is_there others pair.1) (same pair.0) ∙ ap (λ (b : Bool). is_there rows pair.0 && b) (same pair.1) ∙ here) links tidy.linked;
  governed = each_so (λ (row : PolicyRow). is_there rows row.channel ≡ true) (λ row. is_there others row.channel ≡ true)
      (λ row here. same row.channel ∙ here) policies tidy.governed;
  listening = each_so (λ (pair : ListenerPair). is_there rows pair.channel ≡ true) (λ pair. is_there others pair.channel ≡ true)
      (λ pair here. same pair.channel ∙ here) listeners tidy.listening;
}

not_not : (b : Bool) → b ≡ true → not (not b) ≡ true
not_not b is = ap (λ (x : Bool). not (not x)) is

-- with the same channels all is as it was
tree_stays : (state : StateValue) → IsTidy state → with_tree state (without_rows state.tree state.tree.channels) ≡ state
tree_stays state tidy =
    let rows : List Row = state.tree.channels in
    let links : filter (λ pair. is_there rows pair.0 && is_there rows pair.1) state.tree.links ≡ state.tree.links =
    filter_stays (λ pair. is_there rows pair.0 && is_there rows pair.1) state.tree.links tidy.linked in
    let policies : filter (λ row. is_there rows row.channel) state.policies ≡ state.policies =
    filter_stays (λ row. is_there rows row.channel) state.policies tidy.governed in
    let listeners : filter (λ pair. not (not (is_there rows pair.channel))) state.roster.listeners ≡ state.roster.listeners =
    filter_stays (λ pair. not (not (is_there rows pair.channel))) state.roster.listeners
    (each_so (λ (pair : ListenerPair). is_there rows pair.channel ≡ true) (λ pair. not (not (is_there rows pair.channel)) ≡ true)
    (λ pair. not_not (is_there rows pair.channel)) state.roster.listeners tidy.listening) in
    λ i. record state {
      tree = record state.tree { links = links i };
      policies = policies i;
      roster = record state.roster { listeners = listeners i };
    }

pub nothing_goes : (before state : StateValue) → IsTidy state → empties before state ≡ false → without_emptied before state ≡ state
nothing_goes before state tidy none =
    ap (λ (rows : List Row). with_tree state (without_rows state.tree rows)) (rows_kept before state none) ∙ tree_stays state tidy
