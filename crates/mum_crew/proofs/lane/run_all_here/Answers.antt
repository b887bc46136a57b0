use Rattle.mum_crew.proofs.Common.{◌<◌, length, All, IsTrue, arith}
use Rattle.mum_crew.proofs.{KeepLemmas.below_set, TurnLemmas.lane_set, TurnLemmas.lanes_same}
use Rattle.mum_crew.proofs.lane.run_all_here.Goals as goal

pub loop-k-init : goal.loop-k-init
loop-k-init g c = record {
  came = lanes_same g.R.Role.opening g.R.Role.turned (λ t. t.role) (λ lane. lane.tasks.items) c.args.lanes.now;
  ended = λ t d below. absurd (omega (below, arith));
}

-- one lane more has run
pub loop-k-preserved : goal.loop-k-preserved
loop-k-preserved g c =
    let within : c.loop-k.k < length c.loop-k.lanes = omega (c.loop-k-test.true, c.loop-k.auto.lanes, arith) in
    record {
      came = lane_set g.R.Role.opening g.R.Role.turned (λ t. t.role) (λ lane. lane.tasks.items) c.args.lanes.now c.loop-k.lanes c.loop-k.k c.run_here.new.lane c.index-lanes-k.result c.loop-k.auto.lanes within
          c.run_here.ensures.came c.loop-k.invariant.came;
      ended = below_set (λ lane. All (λ t. IsTrue (g.R.Role.has_ended t.role)) lane.tasks.items) c.loop-k.lanes c.loop-k.k c.run_here.new.lane within c.run_here.ensures.ended c.loop-k.invariant.ended;
    }
