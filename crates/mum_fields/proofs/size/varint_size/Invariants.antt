use Rattle.mum_fields.proofs.Common.{◌≡◌, ℕ, ◌+◌, List, length, shortest}
use Rattle.mum_fields.proofs.Spellings.{Rest}
use Rattle.mum_fields.proofs.size.varint_size.Given as goal

abbrev pub invariant-loop-rest : goal.invariant-loop-rest
invariant-loop-rest l = (out : List ℕ) × (l.size ≡ length out + 1) × Rest l.rest out (shortest l.number)

abbrev pub decreases-loop-rest : goal.decreases-loop-rest
decreases-loop-rest l = l.rest
