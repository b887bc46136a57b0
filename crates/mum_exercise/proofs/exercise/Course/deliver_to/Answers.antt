use Rattle.mum_exercise.proofs.Common.{on_ok_weaker}
use Rattle.mum_exercise.proofs.Takings.{drains_after}
use Rattle.mum_exercise.proofs.exercise.Course.deliver_to.Goals as goal

pub returns : goal.returns
returns c =
    on_ok_weaker c.drain_each.result (drains_after c.args.worker c.args.self.now c.offer_each.new.self c.drain_each.new.self c.args.audience.now c.in_ok-offer_each.ensures) c.drain_each.ensures
