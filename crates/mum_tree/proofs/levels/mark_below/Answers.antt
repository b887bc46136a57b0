use Rattle.mum_tree.proofs.Common.{◌<◌, ◌∙◌, List, length, get_or, refl, arith, ap, sym, subst, All, is_some, ChannelId, Row, is_below, level}
use Rattle.mum_tree.proofs.{Climb.some_level, Depths.levels_none, Numbered.before_more, Numbered.few_more, Numbered.marked_more}
use Rattle.mum_tree.proofs.levels.mark_below.Goals as goal

pub loop-at-init : goal.loop-at-init
loop-at-init c = record {
  room = refl;
  right = levels_none c.args.rows.now c.args.top _ refl;
  few = omega (arith, ap (λ (marked : List ChannelId). length marked) c.clear.ensures);
  before = λ j d above inside. subst (λ (marked : List ChannelId). All (λ one. one.0 < (get_or c.args.rows.now j d).channel.id.0) marked) (sym c.clear.ensures) (λ k e below. absurd (omega arith));
  marked = c.clear.ensures;
}

pub loop-at-preserved : goal.loop-at-preserved
loop-at-preserved c =
    let rows = c.args.rows.now in
    let row = c.index-rows-at.result in
    let at = c.loop-at.at in
    let told = c.find_level-level.ensures.value row ∙ ap (λ (r : Row). level rows c.args.top r.channel.id) (sym c.index-rows-at.is) in
    let here = c.is_some.ensures ∙ ap is_some told ∙ some_level rows c.args.top row.channel.id in
    let marked = c.loop-at.scratch in
    record {
      room = omega (arith, c.find_level-level.auto.known, c.loop-at.invariant.room);
      right = c.find_level-level.ensures.kept;
      few = rw c.mark_if.ensures (few_more marked row.channel.id c.is_some.result at c.loop-at.invariant.few);
      before = rw c.mark_if.ensures (before_more rows at row marked c.is_some.result c.requires.rise c.loop-at-test.true c.index-rows-at.is c.loop-at.invariant.before);
      marked = c.mark_if.ensures ∙ marked_more (λ one. is_below rows c.args.top one.channel.id) rows at row marked c.is_some.result c.loop-at-test.true c.index-rows-at.is c.loop-at.invariant.marked here;
    }
