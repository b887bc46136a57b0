use Rattle.mum_server.proofs.Common.{◌≡◌, ◌+◌, ◌≤◌, INPUT_LIMIT}
use Rattle.mum_server.proofs.Underway.{IsUnderway}
use Rattle.mum_server.proofs.replay.replay_lines.Given as goal

abbrev pub invariant-lines : goal.invariant-lines
invariant-lines g l =
    let left = g.I.Source.left in
    let written = g.O.Sink.written in
    record {
      underway : IsUnderway (written l.fn.output) (written l.output) l.run.phase l.run.line l.reader (left l.input) (left l.fn.input);
      counted : l.run.line + l.reader.room ≤ INPUT_LIMIT + 1;
      read : g.I.Source.faults l.input ≡ g.I.Source.faults l.fn.input;
      wrote : g.O.Sink.faults l.output ≡ g.O.Sink.faults l.fn.output;
    }

abbrev pub decreases-lines : goal.decreases-lines
decreases-lines g l = l.reader.room
