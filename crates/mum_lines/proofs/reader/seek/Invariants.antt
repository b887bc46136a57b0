use Rattle.mum_lines.proofs.Common.{◌≡◌, ◌-◌, ◌<◌, length, line_length, ReadOn, kept_in, BUFFER_LENGTH}
use Rattle.mum_lines.proofs.reader.seek.Given as goal

abbrev pub invariant-reads : goal.invariant-reads
invariant-reads g l =
    let left = g.I.Source.left in
    let faults = g.I.Source.faults in
    record {
      read : ReadOn (kept_in l.fn.buffer) (kept_in l.buffer) (left l.fn.input) (left l.input);
      no_fault : faults l.input ≡ faults l.fn.input;
      unread : line_length (kept_in l.fn.buffer) < length (kept_in l.fn.buffer) → l.input ≡ l.fn.input;
    }

abbrev pub decreases-reads : goal.decreases-reads
decreases-reads g l = BUFFER_LENGTH - length (kept_in l.buffer)
