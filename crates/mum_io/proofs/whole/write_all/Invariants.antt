use Rattle.mum_io.proofs.Common.{◌≡◌, length, take, ◌-◌, ◌≤◌, Appends}
use Rattle.mum_io.proofs.whole.write_all.Given as goal

abbrev pub invariant-loop-done : goal.invariant-loop-done
invariant-loop-done g l = record {
  in_range : l.done ≤ length l.bytes;
  written : Appends (g.O.Sink.written l.initial.output) (g.O.Sink.written l.output) (take l.done l.bytes);
  no_fault : g.O.Sink.faults l.output ≡ g.O.Sink.faults l.initial.output;
}

abbrev pub decreases-loop-done : goal.decreases-loop-done
decreases-loop-done g l = length l.bytes - l.done
