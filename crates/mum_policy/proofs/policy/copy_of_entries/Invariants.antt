use Rattle.mum_policy.proofs.Common.{◌≡◌, take}
use Rattle.mum_policy.proofs.policy.copy_of_entries.Given as goal

abbrev pub invariant-loop-entry : goal.invariant-loop-entry
invariant-loop-entry l = l.copies.items ≡ take l.entry-index l.entries
