-- The step was allowed, and its lines are ended.
use Rattle.mum_server.proofs.Common.{string_bytes}
use Rattle.mum_server.proofs.Told.{step_taken}
use Rattle.mum_server.proofs.replay.take_step.Goals as goal

pub returns : goal.returns
returns c =
    step_taken c.args.core.now c.take.new.self c.args.step.now (string_bytes c.args.text.now) (string_bytes c.take.new.text) (string_bytes c.push_str.new.self)
    c.in-Ok.ensures.settled.0 c.in-Ok.ensures.settled.1 c.in-Ok.ensures.told c.in_ok-push_str.ensures.bytes
