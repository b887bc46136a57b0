use Rattle.mum_worker.proofs.Queues.{gives_pass}
use Rattle.mum_worker.proofs.boxes.pass_at.Goals as goal

pub returns : goal.returns
returns g c =
    gives_pass c.args.boxes.now.items c.args.place c.in-Some.queue.now c.pass.new.self c.pass.result c.requires c.in-Some.ensures.value c.pass.ensures.pass c.pass.ensures.owner
