-- The step that the line says was taken.
use Rattle.mum_server.proofs.Common.{string_bytes}
use Rattle.mum_server.proofs.Answered.{line_taken}
use Rattle.mum_server.proofs.replay.take_line.Goals as goal

pub returns : goal.returns
returns c =
    line_taken c.args.n c.args.core.now c.take_step.new.core c.in_ok-step.step c.args.line.now (string_bytes c.args.text.now) (string_bytes c.take_step.new.text) c.is_end.result
    c.in_ok-step.ensures.said c.is_end.ensures c.requires c.in_ok-take_step.ensures
