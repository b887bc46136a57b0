-- Each line that is taken goes on with what was reported; each way out says what was written.
use Rattle.mum_server.proofs.Common.{◌∙◌, List, ℕ, refl, ap, subst, arith, Appends, AppendsFront, ReaderState}
use Rattle.mum_server.proofs.Underway.{begins, breaks_given, closes, goes_given, halts, pauses_given, stops_too_long, stops_unended}
use Rattle.mum_server.proofs.replay.replay_lines.Goals as goal

pub lines-init : goal.lines-init
lines-init g c =
    record {
      underway = begins (g.O.Sink.written c.args.output.now) (g.I.Source.left c.args.input.now) c.args.reader.now c.args.run.now.phase c.args.run.now.line c.requires.reader c.requires.phase c.requires.line;
      counted = omega (arith, c.requires.line, ap (λ (r : ReaderState). r.room) c.requires.reader);
      read = refl;
      wrote = refl;
    }

pub returns-in-End-clause-ends : goal.returns-in-End-clause-ends
returns-in-End-clause-ends g c =
    let left = g.I.Source.left in
    let written = g.O.Sink.written in
    let given = rw c.in-End.is at c.next.follows.holds-at-none in
    rw c.ended.ensures (closes (written c.args.output.now) (written c.lines.output) (left c.lines.input) (left c.next.new.input) (left c.args.input.now) c.lines.run.phase c.lines.run.line
    c.lines.reader c.next.follows.lender-at-none c.lines.invariant.underway given.0 given.1 given.2)

pub returns-in-Rest-clause-ends : goal.returns-in-Rest-clause-ends
returns-in-Rest-clause-ends g c =
    let left = g.I.Source.left in
    let written = g.O.Sink.written in
    let given = rw c.in-Rest.is at c.next.follows.holds-at-none in
    rw c.faulty.ensures (stops_unended (written c.args.output.now) (written c.lines.output) (left c.lines.input) (left c.next.new.input) (left c.args.input.now) c.lines.run.phase c.lines.run.line
    c.lines.reader c.next.follows.lender-at-none c.lines.invariant.underway given.0 given.1 (λ empty. given.3 (given.2 ∙ empty)) given.4)

pub returns-in-TooLong-clause-ends : goal.returns-in-TooLong-clause-ends
returns-in-TooLong-clause-ends g c =
    let left = g.I.Source.left in
    let written = g.O.Sink.written in
    let given = rw c.in-TooLong.is at c.next.follows.holds-at-none in
    rw c.faulty-in-TooLong.ensures (stops_too_long (written c.args.output.now) (written c.lines.output) (left c.lines.input) (left c.next.new.input) (left c.args.input.now) c.lines.run.phase c.lines.run.line
    c.lines.reader c.next.follows.lender-at-none c.lines.invariant.underway given.0 given.1)

pub returns-in-Failed-clause-ends : goal.returns-in-Failed-clause-ends
returns-in-Failed-clause-ends g c =
    let left = g.I.Source.left in
    let written = g.O.Sink.written in
    pauses_given (written c.args.output.now) (written c.lines.output) (left c.lines.input) (left c.args.input.now) c.lines.run.phase c.lines.run.line c.lines.reader c.lines.invariant.underway

pub take-requires : goal.take-requires
take-requires g c = omega (arith, c.lines.invariant.counted)

pub lines-preserved : goal.lines-preserved
lines-preserved g c =
    let left = g.I.Source.left in
    let written = g.O.Sink.written in
    let run = c.lines.run in
    let reader = c.next.follows.lender-at-none in
    let parts = rw c.in-Line.is at c.next.follows.holds-at-none in
    let step = c.in-Ok.ensures in
    let whole = c.wrote.ensures.whole c.if-not-wrote.false in
    let told = subst (λ (t : List ℕ). Appends (written c.lines.output) (written c.wrote.new.output) t) (c.as_str.ensures.value ∙ step.2) whole.0 in
    let gone = goes_given (written c.args.output.now) (written c.lines.output) (written c.wrote.new.output) (left c.lines.input) (left c.next.new.input) (left c.args.input.now) run.phase c.take.new.self.phase
    run.line c.lines.reader reader c.in-Line.line.now step.0 c.lines.invariant.underway parts step.1 told in
    record {
      underway = rw step.3 gone;
      counted = omega (arith, step.3, parts.room, c.lines.invariant.counted);
      read = c.in-Line.ensures.counts ∙ c.lines.invariant.read;
      wrote = whole.1 ∙ c.lines.invariant.wrote;
    }

pub lines-smaller : goal.lines-smaller
lines-smaller g c =
    let parts = rw c.in-Line.is at c.next.follows.holds-at-none in
    omega (arith, parts.room)

pub returns-in-Err-clause-ends : goal.returns-in-Err-clause-ends
returns-in-Err-clause-ends g c =
    let left = g.I.Source.left in
    let written = g.O.Sink.written in
    let parts = rw c.in-Line.is at c.next.follows.holds-at-none in
    halts (written c.args.output.now) (written c.lines.output) (left c.lines.input) (left c.next.new.input) (left c.args.input.now) c.lines.run c.take.new.self c.lines.reader
    c.next.follows.lender-at-none c.in-Line.line.now c.in-Err.end c.lines.invariant.underway parts c.in-Err.ensures

pub returns-then-not-wrote-clause-ends : goal.returns-then-not-wrote-clause-ends
returns-then-not-wrote-clause-ends g c =
    let left = g.I.Source.left in
    let written = g.O.Sink.written in
    let run = c.lines.run in
    let parts = rw c.in-Line.is at c.next.follows.holds-at-none in
    let step = c.in-Ok.ensures in
    let front = c.wrote.ensures.front c.if-not-wrote.true in
    let told = subst (λ (t : List ℕ). AppendsFront (written c.lines.output) (written c.wrote.new.output) t) (c.as_str.ensures.value ∙ step.2) front.0 in
    breaks_given (written c.args.output.now) (written c.lines.output) (written c.wrote.new.output) (left c.lines.input) (left c.next.new.input) (left c.args.input.now) run.phase c.take.new.self.phase
    run.line c.lines.reader c.next.follows.lender-at-none c.in-Line.line.now step.0 c.lines.invariant.underway parts step.1 told
