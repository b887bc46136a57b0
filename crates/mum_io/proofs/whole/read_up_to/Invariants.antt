use Rattle.mum_io.proofs.Common.{◌≡◌, ◌+◌, ◌-◌, ◌≤◌, vec_len, Consumes}
use Rattle.mum_io.proofs.whole.read_up_to.Given as goal

abbrev pub invariant-loop-chunk : goal.invariant-loop-chunk
invariant-loop-chunk g l = record {
  bounded : vec_len l.bytes ≤ l.limit + 65_536;
  taken : Consumes (g.I.Source.left l.initial.input) (g.I.Source.left l.input) l.bytes.items;
  no_fault : g.I.Source.faults l.input ≡ g.I.Source.faults l.initial.input;
}

abbrev pub decreases-loop-chunk : goal.decreases-loop-chunk
decreases-loop-chunk g l = l.limit + 1 - vec_len l.bytes
