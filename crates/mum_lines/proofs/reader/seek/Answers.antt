use Rattle.mum_lines.proofs.Common.{◌∙◌, ◌++◌, List, ℕ, sym, ap, true≢false, kept_in}
use Rattle.mum_lines.proofs.Readers.{at_end_kept, opened, reads_more, reads_none, still_found}
use Rattle.mum_lines.proofs.reader.seek.Goals as goal

pub reads-preserved : goal.reads-preserved
reads-preserved g c =
    let left = g.I.Source.left in
    let old = kept_in c.args.buffer.now in
    let mid = kept_in c.reads.buffer in
    let read = c.reads.invariant.read in
    let got = c.in-Got.ensures.bytes in
    record {
      read = reads_more old mid (kept_in c.read.new.self) (left c.args.input.now) (left c.reads.input) (left c.read.new.input) got.0 read
          (got.2 ∙ ap (λ (xs : List ℕ). xs ++ got.0) c.line_feed.ensures.same) got.3;
      no_fault = c.in-Got.ensures.counts ∙ c.reads.invariant.no_fault;
      unread = λ had. absurd (still_found old mid read.taken read.kept c.in_default.ensures.found had);
    }

pub returns-in-End-clause-sought : goal.returns-in-End-clause-sought
returns-in-End-clause-sought g c =
    let left = g.I.Source.left in
    let got = c.in-End.ensures.bytes in (
      reads_none (kept_in c.args.buffer.now) (kept_in c.reads.buffer) (kept_in c.read.new.self) (left c.args.input.now) (left c.reads.input) (left c.read.new.input)
          c.reads.invariant.read (got.0 ∙ c.line_feed.ensures.same) got.2,
      opened c.args.room (kept_in c.read.new.self) (kept_in c.reads.buffer) (got.0 ∙ c.line_feed.ensures.same) c.in_default.ensures.found
          (λ many. true≢false (sym (c.if-are_too_many.ensures.1 (rw (c.as_slice.ensures.value ∙ c.line_feed.ensures.same) many)))),
      at_end_kept (left c.args.input.now) (left c.reads.input) (left c.read.new.input) c.reads.invariant.read.taken c.reads.invariant.read.consumed got.1 got.2,
    )

pub returns-in-End-clause-unread : goal.returns-in-End-clause-unread
returns-in-End-clause-unread g c = λ had.
    let read = c.reads.invariant.read in
    absurd (still_found (kept_in c.args.buffer.now) (kept_in c.reads.buffer) read.taken read.kept c.in_default.ensures.found had)

pub returns-in-Failed-clause-unread : goal.returns-in-Failed-clause-unread
returns-in-Failed-clause-unread g c = λ had.
    let read = c.reads.invariant.read in
    absurd (still_found (kept_in c.args.buffer.now) (kept_in c.reads.buffer) read.taken read.kept c.in_default.ensures.found had)
