use Rattle.mum_control.proofs.Common.{[], ◌∷◌, ◌++◌, rules}
use Rattle.mum_control.proofs.Boxes.{emptied_so, taken_more}
use Rattle.mum_control.proofs.post.empty_queue.Goals as goal

pub loop-preserved : goal.loop-preserved
loop-preserved g c =
    let so_far = c.loop.invariant.1 in
    let takes = c.in-Some-take_as.ensures in
    (search rules, (so_far.0 ++ takes.0 ∷ [], taken_more c.args.pass.now c.loop.pass c.take_as.new.pass so_far.0 takes.0 so_far.1 takes.2))

pub returns-in_default : goal.returns-in_default
returns-in_default g c =
    let so_far = c.loop.invariant.1 in
    emptied_so c.args.pass.now c.loop.pass c.take_as.new.pass so_far.0 so_far.1 c.in_default.ensures
