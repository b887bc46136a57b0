use Rattle.mum_tree.proofs.Common.{◌≡◌, ◌<◌, ◌∙◌, Bool, true, false, List, length, get_or, arith, refl, ap, subst, length-set, count_by, false≢true, Row}
use Rattle.mum_tree.proofs.Places.{count_set, count_none, none_taken, free_more, taken_more}
use Rattle.mum_tree.proofs.rows.taken_places.Goals as goal

pub loop-row-init : goal.loop-row-init
loop-row-init c =
    let cleared = c.clear.ensures in
    record {
      whole = ap (λ (marks : List Bool). length marks) cleared;
      free = λ place inside unset k d below. absurd (omega arith);
      taken = λ place held free. false≢true (none_taken 2048 place (subst (λ (marks : List Bool). get_or marks place false ≡ true) cleared held) refl);
      count = omega (arith, count_none 2048, ap (λ (marks : List Bool). count_by (λ one. one) marks) cleared);
    }

pub loop-row-preserved : goal.loop-row-preserved
loop-row-preserved c =
    let row = c.row-item.result in
    let rows = c.args.rows.now in
    let i = c.loop-row.row-index in
    let places_fit : (get_or rows i row).place < 2048 = c.requires.places_fit i row c.loop-row-test.true in
    let same : row.place ≡ (get_or rows i row).place = ap (λ (r : Row). r.place) c.row-item.is in
    let inside : row.place < length c.loop-row.taken = omega arith in
    record {
      whole = length-set c.loop-row.taken row.place true ∙ c.loop-row.invariant.whole;
      free = free_more rows c.loop-row.taken i row c.loop-row-test.true c.row-item.is inside c.loop-row.invariant.free;
      taken = taken_more rows c.loop-row.taken i row c.loop-row-test.true c.row-item.is c.loop-row.invariant.taken;
      count = omega (arith, count_set c.loop-row.taken row.place inside);
    }
