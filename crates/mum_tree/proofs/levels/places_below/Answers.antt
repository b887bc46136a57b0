use Rattle.mum_tree.proofs.Common.{◌≡◌, ◌<◌, ◌∙◌, false, length, get_or, refl, arith, ap, sym, length-set, is_some, Row, is_below, level}
use Rattle.mum_tree.proofs.{Climb.some_level, Depths.levels_none, Places.placement_more}
use Rattle.mum_tree.proofs.levels.places_below.Goals as goal

pub loop-at-init : goal.loop-at-init
loop-at-init c = record {
  room = refl;
  right = levels_none c.args.rows.now c.args.top _ refl;
  whole = c.requires.room;
  done = λ k d below. absurd (omega arith);
}

pub loop-at-preserved : goal.loop-at-preserved
loop-at-preserved c =
    let rows = c.args.rows.now in
    let row = c.index-rows-at.result in
    let at = c.loop-at.at in
    let places_fit : (get_or rows at row).place < 2048 = c.requires.places_fit at row c.loop-at-test.true in
    let same : row.place ≡ (get_or rows at row).place = ap (λ (r : Row). r.place) c.index-rows-at.is in
    let inside : row.place < length c.loop-at.below = omega (arith, c.loop-at.invariant.whole) in
    let told = c.find_level-level.ensures.value row ∙ ap (λ (r : Row). level rows c.args.top r.channel.id) (sym c.index-rows-at.is) in
    let here = c.is_some.ensures ∙ ap is_some told ∙ some_level rows c.args.top row.channel.id in
    record {
      room = omega (arith, c.find_level-level.auto.known, c.loop-at.invariant.room);
      right = c.find_level-level.ensures.kept;
      whole = length-set c.loop-at.below row.place c.is_some.result ∙ c.loop-at.invariant.whole;
      done = placement_more (λ k r b. b ≡ is_below rows c.args.top r.channel.id) false rows c.loop-at.below at row c.is_some.result c.loop-at-test.true c.index-rows-at.is inside c.requires.places_apart c.loop-at.invariant.done here;
    }
