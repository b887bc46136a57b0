-- After the text that is written a front of the last lines is.
use Rattle.mum_serve.proofs.Common.{◌∙◌, sym, AppendsFront-behind}
use Rattle.mum_serve.proofs.Written.{err_of, ok_of}
use Rattle.mum_serve.proofs.program.write_behind.Goals as goal

pub returns-then-is_err-2-clause-writes : goal.returns-then-is_err-2-clause-writes
returns-then-is_err-2-clause-writes g c =
    AppendsFront-behind (g.O.Sink.written c.args.output.now) (g.O.Sink.written c.write_all.new.output) (g.O.Sink.written c.write_all-2.new.output) c.args.text.now c.args.lines.now
    (ok_of c.write_all.result (sym c.is_err.ensures.value ∙ c.if-is_err.false) c.write_all.ensures.ok)
    (err_of c.write_all-2.result (sym c.is_err-2.ensures.value ∙ c.if-is_err-2.true) c.write_all-2.ensures.front)
