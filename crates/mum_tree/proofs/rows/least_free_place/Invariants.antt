use Rattle.mum_tree.proofs.Common.{◌≡◌, ℕ, ◌<◌, true, false, get_or}
use Rattle.mum_tree.proofs.rows.least_free_place.Given as goal

abbrev pub invariant-loop-place : goal.invariant-loop-place
invariant-loop-place l = (lower : ℕ) → lower < l.place → get_or l.taken lower false ≡ true
