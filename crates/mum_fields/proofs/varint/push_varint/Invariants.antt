use Rattle.mum_fields.proofs.Common.{◌≡◌, ◌++◌, List, ℕ, shortest}
use Rattle.mum_fields.proofs.Spellings.{Rest}
use Rattle.mum_fields.proofs.varint.push_varint.Given as goal

abbrev pub invariant-loop-rest : goal.invariant-loop-rest
invariant-loop-rest l = record {
  rest : Rest l.rest l.out.items (l.fn.out.items ++ shortest l.number);
  part : (part : List ℕ) × (l.out.items ≡ l.fn.out.items ++ part);
}

abbrev pub decreases-loop-rest : goal.decreases-loop-rest
decreases-loop-rest l = l.rest
