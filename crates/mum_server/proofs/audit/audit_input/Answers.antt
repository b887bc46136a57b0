-- The journal of the input, its line, and what was written.
use Rattle.mum_server.proofs.Common.{ℕ, List, subst, string_bytes, Ends, Finished}
use Rattle.mum_server.proofs.Audits.{counts_reads, input_stops, input_told, input_wrong}
use Rattle.mum_server.proofs.audit.audit_input.Goals as goal

pub returns-in-Err-clause-ends : goal.returns-in-Err-clause-ends
returns-in-Err-clause-ends g c = input_stops (g.I.Source.left c.args.input.now) c.in-Err.end (g.O.Sink.written c.args.output.now) c.in-Err.ensures.reads

pub returns-in-Ok-judged-clause-ends : goal.returns-in-Ok-judged-clause-ends
returns-in-Ok-judged-clause-ends g c =
    let old = g.O.Sink.written c.args.output.now in
    let new = g.O.Sink.written c.write_line.new.output in
    let line = string_bytes c.in-Ok-judged.line in
    input_told (g.I.Source.left c.args.input.now) c.in-Ok.journal line c.write_line.result old new c.in-Ok.ensures.reads c.in-Ok-judged.ensures
    (subst (λ (text : List ℕ). Ends (record { text = text; ending = Finished }) c.write_line.result old new) c.as_str.ensures.value c.write_line.ensures.ends)

pub returns-in-Ok-judged-clause-reads : goal.returns-in-Ok-judged-clause-reads
returns-in-Ok-judged-clause-reads g c =
    counts_reads c.write_line.result (g.I.Source.faults c.args.input.now) (g.I.Source.faults c.read_input.new.input) c.write_line.ensures.no_read c.in-Ok.ensures.counts

pub returns-in-Err-judged-clause-ends : goal.returns-in-Err-judged-clause-ends
returns-in-Err-judged-clause-ends g c =
    input_wrong (g.I.Source.left c.args.input.now) c.in-Ok.journal c.in-Err-judged.end (g.O.Sink.written c.args.output.now) c.in-Ok.ensures.reads c.in-Err-judged.ensures
