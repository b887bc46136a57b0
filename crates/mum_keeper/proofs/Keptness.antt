-- The rows that are kept of a state are in order.
use Rattle.mum_keeper.proofs.Common.{◌≡◌, ◌≤◌, ◌<◌, suc, ◌&&◌, Bool, true, false, cond, ltb, List, [], ◌∷◌, filter, map, refl, arith, AllByRecursion, and_parts, lt-ltb, ltb-true, AllPairs-filter, Each, each_filter, each_from_all, each_map, IsProper, StateValue, AllPairs-tail, number, RowsRise, Pair, TreeState, Row, is_kept_link, is_lasting, kept, kept_channel, kept_channels, lasts, KeptChannel, AreInOrder, channel_before, link_before}
use Rattle.mum_keeper.proofs.{Merging.IsAfter, Merging.Rises, Ordering.risen}

module _ (state : StateValue) where
  abbrev row_kept : Row → KeptChannel
  row_kept row = kept_channel state row.channel

  abbrev stays : Row → Bool
  stays row = is_lasting row.channel

  -- those after a row are kept after it
  kept_after : (row : Row) (rows : List Row) → Each (λ later. number row < number later) rows → Each (IsAfter channel_before (row_kept row)) (map row_kept (filter stays rows))
  kept_after row rows later =
      each_map (λ (other : Row). number row < number other) (IsAfter channel_before (row_kept row)) row_kept (λ other less. lt-ltb (number row) (number other) less) (filter stays rows)
      (each_filter (λ (other : Row). number row < number other) stays rows later)

  rise_by : (lasting : Bool) (row : Row) (rows : List Row) → Each (IsAfter channel_before (row_kept row)) (map row_kept (filter stays rows)) → Rises channel_before (map row_kept (filter stays rows))
      → Rises channel_before (map row_kept (cond lasting (row ∷ filter stays rows) (filter stays rows)))
  rise_by true row rows after rise = (after, rise)
  rise_by false row rows after rise = rise

  kept_rise : (rows : List Row) → RowsRise rows → Rises channel_before (map row_kept (filter stays rows))
  kept_rise [] rise = tt
  kept_rise (row ∷ rows) rise =
      rise_by (stays row) row rows
      (kept_after row rows (each_from_all (λ (later : Row). number row < number later) rows (λ k d within. rise 0 (suc k) d (omega arith) (omega arith))))
      (kept_rise rows (AllPairs-tail (λ (one later : Row). number one < number later) row rows rise))

lesser_by : (tree : TreeState) (is_kept : Bool) (pair : Pair) (rest : List Pair) → is_kept_link tree pair ≡ is_kept → AllByRecursion (λ (p : Pair). p.0.0 ≤ p.1.0) rest
    → AllByRecursion (λ (p : Pair). p.0.0 ≤ p.1.0) (cond is_kept (pair ∷ rest) rest)
lesser_by tree true pair rest is all =
    let parts = and_parts (ltb pair.0.0 pair.1.0 && lasts tree pair.0) (lasts tree pair.1) is in
    let less = ltb-true pair.0.0 pair.1.0 (and_parts (ltb pair.0.0 pair.1.0) (lasts tree pair.0) parts.0).0 in
    (omega (arith, less), all)
lesser_by tree false pair rest is all = all

lesser_kept : (tree : TreeState) (links : List Pair) → AllByRecursion (λ (p : Pair). p.0.0 ≤ p.1.0) (filter (is_kept_link tree) links)
lesser_kept tree [] = tt
lesser_kept tree (pair ∷ links) = lesser_by tree (is_kept_link tree pair) pair (filter (is_kept_link tree) links) refl (lesser_kept tree links)

pub kept_in_order : (state : StateValue) → IsProper state → AreInOrder (kept state)
kept_in_order state proper = record {
  channels = risen channel_before (kept_channels state) (kept_rise state state.tree.channels proper.tree.rise);
  links = AllPairs-filter (IsAfter link_before) (is_kept_link state.tree) state.tree.links proper.tree.joined.pairs.ordered;
  lesser_first = lesser_kept state.tree state.tree.links;
}
