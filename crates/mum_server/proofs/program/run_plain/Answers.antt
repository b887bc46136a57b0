-- What the words ask for is what was run, and its end is what is answered and said.
use Rattle.mum_server.proofs.Common.{rules, map, string_bytes, Rose}
use Rattle.mum_server.proofs.Reported.{asks_for_one, asks_that, audit_answered, audit_said, exercise_answered, exercise_said, memory_said, replay_answered, replay_said}
use Rattle.mum_server.proofs.program.run_plain.Goals as goal

pub returns : goal.returns
returns g c =
    let words = map string_bytes c.args.words.now in
    let told = Rose (g.E.Sink.faults c.args.errors.now) (g.E.Sink.faults c.report.new.errors) in
    let old = g.O.Sink.written c.args.output.now in
    let new = g.O.Sink.written c.run-end.new.output in
    let eold = g.E.Sink.written c.args.errors.now in
    let enew = g.E.Sink.written c.report.new.errors in
    let left = g.I.Source.left c.args.input.now in
    record {
      replay = λ asked.
          replay_answered words c.in-Some.command left c.run-end.result c.report.result old new eold enew
          (g.I.Source.faults c.args.input.now) (g.I.Source.faults c.run-end.new.input) (g.O.Sink.faults c.args.output.now) (g.O.Sink.faults c.run-end.new.output)
          told c.in-Some.ensures asked c.run-end.ensures.ends c.report.ensures c.run-end.ensures.reads c.run-end.ensures.writes;
      says = λ asked.
          replay_said words c.in-Some.command left c.run-end.result c.report.result old new eold enew
          told c.in-Some.ensures asked c.run-end.ensures.ends c.report.ensures;
      audit = λ asked.
          audit_answered words c.in-Some.command left c.run-end.result c.report.result old new eold enew
          (g.I.Source.faults c.args.input.now) (g.I.Source.faults c.run-end.new.input) (g.O.Sink.faults c.args.output.now) (g.O.Sink.faults c.run-end.new.output)
          told c.in-Some.ensures asked c.run-end.ensures.ends c.report.ensures c.run-end.ensures.reads c.run-end.ensures.writes;
      audit_says = λ asked.
          audit_said words c.in-Some.command left c.run-end.result c.report.result old new eold enew
          told c.in-Some.ensures asked c.run-end.ensures.ends c.report.ensures;
      exercise = λ seed rounds asked.
          let untouched = c.run-end.ensures.untouched seed rounds (asks_that words c.in-Some.command seed rounds c.in-Some.ensures asked) in (
            untouched.0,
            exercise_answered words c.in-Some.command left c.run-end.result c.report.result seed rounds old new eold enew
                (g.O.Sink.faults c.args.output.now) (g.O.Sink.faults c.run-end.new.output)
                told c.in-Some.ensures asked c.run-end.ensures.ends c.report.ensures untouched.1 c.run-end.ensures.writes,
          );
      exercise_says = λ seed rounds asked.
          exercise_said words c.in-Some.command left c.run-end.result c.report.result seed rounds old new eold enew
          told c.in-Some.ensures asked c.run-end.ensures.ends c.report.ensures;
      read_fault = search rules;
      write_fault = search rules;
      no_other_read = search rules;
      no_other_write = search rules;
      usage = λ other. absurd (asks_for_one words c.in-Some.command c.in-Some.ensures other);
      usage_alone = search rules;
      status_is = search rules;
      read_line = search rules;
      write_line = search rules;
      memory_line = λ is. memory_said c.run-end.result c.report.result eold enew told c.report.ensures is;
    }
