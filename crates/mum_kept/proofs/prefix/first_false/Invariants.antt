use Rattle.mum_kept.proofs.Common.{◌≡◌, ℕ, ◌<◌, true, false, get_or}
use Rattle.mum_kept.proofs.prefix.first_false.Given as goal

abbrev pub invariant-loop-at : goal.invariant-loop-at
invariant-loop-at l = (n : ℕ) → n < l.at → get_or l.used n false ≡ true
