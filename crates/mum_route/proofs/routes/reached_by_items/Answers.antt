use Rattle.mum_route.proofs.Common.{get_or, arith, subst, Aimed, AreKnown}
use Rattle.mum_route.proofs.Aimed.{item_heard}
use Rattle.mum_route.proofs.routes.reached_by_items.Goals as goal

pub loop-item-preserved : goal.loop-item-preserved
loop-item-preserved g c = record {
  sound = c.pass_aim.ensures.sound;
  room = omega (arith, c.pass_aim.auto.known, c.loop-item.invariant.room);
  whole = omega (arith, c.pass_aim.auto.reached, c.loop-item.invariant.whole);
  right = subst (λ (aim : Aimed). AreKnown c.args.state.now aim.speaker aim.perm c.pass_aim.new.known) c.item-aim.ensures c.pass_aim.ensures.kept;
  heard = λ k d within.
      item_heard c.args.state.now c.args.speaker.now (get_or c.args.state.now.roster.sessions k d) c.args.items.now c.loop-item.item-index c.item-item.result _ _ _
      c.loop-item-test.true c.item-item.is c.item-aim.ensures (c.loop-item.invariant.heard k d within) (c.pass_aim.ensures.each k d within);
}
