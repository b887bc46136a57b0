use Rattle.mum_audit.proofs.Common.{◌≡◌, drop, with_entries}
use Rattle.mum_audit.proofs.count.with_entries.Given as goal

abbrev pub invariant-loop-entry : goal.invariant-loop-entry
invariant-loop-entry l = with_entries l.fn.counts l.entries ≡ with_entries l.sum (drop l.entry-index l.entries)
