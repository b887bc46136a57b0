use Rattle.mum_audit.proofs.Common.{◌≡◌, drop, no_counts, with_workers}
use Rattle.mum_audit.proofs.count.counts_in.Given as goal

abbrev pub invariant-loop-entries : goal.invariant-loop-entries
invariant-loop-entries l = with_workers no_counts l.by_worker ≡ with_workers l.sum (drop l.entries-index l.by_worker)
