use Rattle.mum_crew.proofs.Common.{◌<◌, length, All, IsTrue, arith, length-set}
use Rattle.mum_crew.proofs.{KeepLemmas.all_set, KeepLemmas.below_set, TurnLemmas.lane_set, TurnLemmas.lanes_same}
use Rattle.mum_crew.proofs.lane.make_up_all.Goals as goal

pub loop-k-init : goal.loop-k-init
loop-k-init g c = record {
  came = lanes_same g.R.Role.opening g.R.Role.turned (λ t. t.role) (λ lane. lane.tasks.items) c.args.lanes.now;
  ran = c.requires;
  ended = λ t d below. absurd (omega (below, arith));
}

-- one lane more has run
pub loop-k-preserved : goal.loop-k-preserved
loop-k-preserved g c =
    let within : c.loop-k.k < length c.loop-k.lanes = omega (c.loop-k-test.true, c.loop-k.auto.lanes, arith) in
    record {
      came = lane_set g.R.Role.opening g.R.Role.turned (λ t. t.role) (λ lane. lane.tasks.items) c.args.lanes.now c.loop-k.lanes c.loop-k.k c.make_up.new.lane c.index-lanes-k.result c.loop-k.auto.lanes within
          c.make_up.ensures.came c.loop-k.invariant.came;
      ran = λ k d below. all_set (λ lane. IsTrue lane.ran → All (λ t. IsTrue (g.R.Role.has_ended t.role)) lane.tasks.items) c.loop-k.lanes c.loop-k.k c.make_up.new.lane within
          (λ _. c.make_up.ensures.ended) c.loop-k.invariant.ran k d (omega (below, length-set c.loop-k.lanes c.loop-k.k c.make_up.new.lane, arith));
      ended = below_set (λ lane. All (λ t. IsTrue (g.R.Role.has_ended t.role)) lane.tasks.items) c.loop-k.lanes c.loop-k.k c.make_up.new.lane within c.make_up.ensures.ended c.loop-k.invariant.ended;
    }
