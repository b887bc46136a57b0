-- What holds of each channel that is there, and of each with a number above those given before, holds after edits.
use Rattle.mum_state.proofs.Common.{◌≡◌, ℕ, ◌<◌, ◌≤◌, ◌==◌, not, Bool, true, false, cond, List, [], ◌∷◌, ◌++◌, refl, sym, subst, arith, Some, None, nat_lt, IsTrue, and_parts, ltb-true, ChannelId, Channel, Row, with_given, least_place, is_below, number, TreeState, changed, new_row, Edit, EditChannel, MakeChannel, RemoveChannel, all_fit, led_to, applied, fits, gives_right_numbers, channel_parts, set_by, StateValue, with_suppression}
use Rattle.mum_state.proofs.{Each.Each, Each.each_append, Each.each_filter, Each.each_map, Heard.clearing_tree, Numbers.greatest_rises, Numbers.numbers_of_fitting}

-- what is said of a row holds whatever else changes of its channel than the number
abbrev pub IsOfRows : (Row → Type 0) → Type 0
IsOfRows P = (row : Row) (change : Channel) → change.id ≡ row.channel.id → P row → P (record row { channel = change })

module _ (P : Row → Type 0) (keeps : IsOfRows P) where
  one_changed : (b : Bool) (row : Row) (change : Channel) → change.id ≡ row.channel.id → P row → P (cond b (record row { channel = change }) row)
  one_changed true row change same holds = keeps row change same holds
  one_changed false row change same holds = holds

  rows_changed : (id : ChannelId) (change : Channel → Channel) → ((one : Channel) → (change one).id ≡ one.id) → (rows : List Row) → Each P rows → Each P (changed id change rows)
  rows_changed id change same rows all =
      each_map P P (λ row. cond (number row == id.0) (record row { channel = change row.channel }) row)
      (λ row holds. one_changed (number row == id.0) row (change row.channel) (same row.channel) holds) rows all

  rows_made : (tree : TreeState) (id parent : ChannelId) (name : List ℕ) (temporary : Bool) (change : Channel → Channel) → ((one : Channel) → (change one).id ≡ one.id)
      → ((row : Row) → tree.greatest < number row → P row) → IsTrue (nat_lt tree.greatest id.0) → Each P tree.channels
      → Each P (changed id change (tree.channels ++ new_row (least_place tree.channels) id parent name temporary ∷ []))
  rows_made tree id parent name temporary change same new above all =
      let row : Row = new_row (least_place tree.channels) id parent name temporary in
      rows_changed id change same (tree.channels ++ row ∷ []) (each_append P tree.channels (row ∷ []) all (new row (ltb-true _ _ above), tt))

  set_rows : (state : StateValue) (edit : Edit) → IsTrue (gives_right_numbers state edit) → ((row : Row) → state.tree.greatest < number row → P row)
      → Each P state.tree.channels → Each P (set_by state edit).tree.channels
  set_rows state (MakeChannel id parent name temporary info None) right new all =
      rows_made state.tree id parent name temporary (λ one. record one { info = info }) (λ one. refl) new right all
  set_rows state (MakeChannel id parent name true info (Some maker)) right new all =
      rows_made state.tree id parent name true (λ one. record one { info = info }) (λ one. refl) new right all
  set_rows state (MakeChannel id parent name false info (Some maker)) right new all =
      rows_made state.tree id parent name false (λ one. record one { info = info }) (λ one. refl) new right all
  set_rows state (EditChannel id actor name parent description position max_users links_add links_remove) right new all =
      rows_changed id (with_given (channel_parts name parent description position max_users links_add links_remove)) (λ one. refl) state.tree.channels all
  set_rows state (RemoveChannel id actor) right new all =
      each_filter P (λ row. not (is_below state.tree.channels id row.channel.id)) state.tree.channels all
  set_rows state edit right new all = all

  applied_rows : (state : StateValue) (edit : Edit) → IsTrue (fits state edit) → ((row : Row) → state.tree.greatest < number row → P row)
      → Each P state.tree.channels → Each P (applied state edit).tree.channels
  applied_rows state edit fit new all =
      each_filter P _ _
      (subst (λ (tree : TreeState). Each P tree.channels) (sym (clearing_tree edit (with_suppression state edit (set_by state edit))))
      (set_rows state edit (numbers_of_fitting state edit fit) new all))

  -- the number is one that was given
  module _ (given : ℕ) (new : (row : Row) → given < number row → P row) where
    pub rows_stay : (state : StateValue) (edits : List Edit) → IsTrue (all_fit state edits) → given ≤ state.tree.greatest → Each P state.tree.channels → Each P (led_to state edits).tree.channels
    rows_stay state [] fit known all = all
    rows_stay state (edit ∷ edits) fit known all =
        let (first, rest) = and_parts (fits state edit) (all_fit (applied state edit) edits) fit in
        let rises : state.tree.greatest ≤ (applied state edit).tree.greatest = greatest_rises state edit first in
        rows_stay (applied state edit) edits rest (omega (arith, known, rises))
        (applied_rows state edit first (λ row above. new row (omega (arith, above, known))) all)
