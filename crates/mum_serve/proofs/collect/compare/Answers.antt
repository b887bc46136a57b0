-- Each worker is compared, and none is left.
use Rattle.mum_serve.proofs.Common.{◌<◌, ◌≤◌, length, arith}
use Rattle.mum_serve.proofs.Ending.{all_compared, compared_one, is_within}
use Rattle.mum_serve.proofs.collect.compare.Goals as goal

pub loop-worker-preserved : goal.loop-worker-preserved
loop-worker-preserved g c =
    let within : c.loop-worker.worker-index < length c.args.workers.now = omega arith in
    let publisher = c.args.owner.now.control.publisher in
    compared_one publisher c.args.workers.now c.loop-worker.worker-index c.worker-item.result within c.worker-item.is
    (is_within publisher c.worker-item.result.common.router.pass c.pass.result.now c.pass.ensures.pass c.has_shown.ensures.seen c.has_shown.ensures.known c.has_shown.ensures.roll) c.loop-worker.invariant

pub returns : goal.returns
returns g c =
    let over : length c.args.workers.now ≤ c.loop-worker.worker-index = omega arith in
    all_compared c.args.owner.now.control.publisher c.args.workers.now c.loop-worker.worker-index over c.loop-worker.invariant
