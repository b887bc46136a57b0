use Rattle.mum_tree.proofs.Common.{◌≡◌, ◌||◌, ◌∙◌, Bool, true, false, get_or, refl, ap, arith, sym, list_any_at, list_any_more, nests}
use Rattle.mum_tree.proofs.{Depths.levels_none, Depths.nests_by_level, Start.root_row}
use Rattle.mum_tree.proofs.levels.nests_too_deep.Goals as goal

pub returns-then-is_too_deep : goal.returns-then-is_too_deep
returns-then-is_too_deep c =
    let rows = c.args.rows.now in
    let at = c.loop-at.at in
    let row = get_or rows at root_row in
    let deep = nests_by_level rows c.args.id c.args.parent row c.path_length-above.result _ c.requires.lead c.path_length-above.ensures.value (c.find_level-level.ensures.value root_row) in
    let here : nests rows c.args.id c.args.parent row ≡ true = sym deep ∙ sym c.is_too_deep.ensures ∙ c.if-is_too_deep.true in
    sym (list_any_at (nests rows c.args.id c.args.parent) rows at root_row c.loop-at-test.true here)

pub loop-at-preserved : goal.loop-at-preserved
loop-at-preserved c =
    let rows = c.args.rows.now in
    let at = c.loop-at.at in
    let row = get_or rows at root_row in
    let deep = nests_by_level rows c.args.id c.args.parent row c.path_length-above.result _ c.requires.lead c.path_length-above.ensures.value (c.find_level-level.ensures.value root_row) in
    let here : nests rows c.args.id c.args.parent row ≡ false = sym deep ∙ sym c.is_too_deep.ensures ∙ c.if-is_too_deep.false in
    record {
      room = omega (arith, c.find_level-level.auto.known, c.loop-at.invariant.room);
      right = c.find_level-level.ensures.kept;
      none =
          list_any_more (nests rows c.args.id c.args.parent) rows at root_row c.loop-at-test.true
          ∙ ap (λ (b : Bool). b || nests rows c.args.id c.args.parent row) c.loop-at.invariant.none
          ∙ here;
    }

pub loop-at-init : goal.loop-at-init
loop-at-init c = record {
  room = refl;
  right = levels_none c.args.rows.now c.args.id _ refl;
  none = refl;
}
