-- Each line that is given is gathered, and each way out says what was.
use Rattle.mum_server.proofs.Common.{◌++◌, ◌∙◌, List, ℕ, ap, arith, refl, ReaderState}
use Rattle.mum_server.proofs.Gathering.{gathers_end, gathers_first, gathers_line, gathers_long, gathers_rest}
use Rattle.mum_server.proofs.journal_input.gather.Goals as goal

pub lines-init : goal.lines-init
lines-init g c = record {
  gathering = gathers_first (g.I.Source.left c.args.input.now) c.args.text.now.items c.args.reader.now 1 c.requires.empty c.requires.reader refl;
  counted = omega (arith, ap (λ (r : ReaderState). r.room) c.requires.reader);
  read = refl;
}

pub lines-preserved : goal.lines-preserved
lines-preserved g c =
    let left = g.I.Source.left in
    let parts = rw c.in-Line.is at c.next.follows.holds-at-none in
    record {
      gathering = gathers_line (left c.args.input.now) (left c.lines.input) (left c.next.new.input) c.lines.text.items c.push_line.new.text.items c.in-Line.line.now c.lines.reader
          c.next.follows.lender-at-none c.lines.number c.lines.invariant.gathering parts c.in-Ok.ensures;
      counted = omega (arith, parts.room, c.lines.invariant.counted);
      read = c.in-Line.ensures.counts ∙ c.lines.invariant.read;
    }

pub lines-smaller : goal.lines-smaller
lines-smaller g c =
    let parts = rw c.in-Line.is at c.next.follows.holds-at-none in
    omega (arith, parts.room)

pub returns-in-End-clause-gathers : goal.returns-in-End-clause-gathers
returns-in-End-clause-gathers g c =
    let left = g.I.Source.left in
    let given = rw c.in-End.is at c.next.follows.holds-at-none in
    gathers_end (left c.args.input.now) (left c.lines.input) (left c.next.new.input) c.lines.text.items c.lines.reader c.next.follows.lender-at-none c.lines.number c.lines.invariant.gathering
    given.0 given.1 given.2

pub returns-in-Ok-extend_from_slice-clause-gathers : goal.returns-in-Ok-extend_from_slice-clause-gathers
returns-in-Ok-extend_from_slice-clause-gathers g c =
    let left = g.I.Source.left in
    let given = rw c.in-Rest.is at c.next.follows.holds-at-none in
    gathers_rest (left c.args.input.now) (left c.lines.input) (left c.next.new.input) c.lines.text.items c.extend_from_slice.new.self.items c.lines.reader c.next.follows.lender-at-none
    c.lines.number c.lines.invariant.gathering given.0 given.1 (c.in-Ok-extend_from_slice.ensures.items ∙ ap (λ (xs : List ℕ). c.lines.text.items ++ xs) given.2) given.4

pub returns-in-TooLong-clause-gathers : goal.returns-in-TooLong-clause-gathers
returns-in-TooLong-clause-gathers g c =
    let left = g.I.Source.left in
    let given = rw c.in-TooLong.is at c.next.follows.holds-at-none in
    gathers_long (left c.args.input.now) (left c.lines.input) (left c.next.new.input) c.lines.text.items c.lines.reader c.next.follows.lender-at-none c.lines.number c.lines.invariant.gathering
    given.0 given.1
