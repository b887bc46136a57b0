use Rattle.mum_fields.proofs.Common.{◌≡◌, List, ◌++◌, length, map, packed}
use Rattle.mum_fields.proofs.packed.push_packed.Given as goal

abbrev pub invariant-loop-number : goal.invariant-loop-number
invariant-loop-number g l = record {
  items : l.numbers ++ map g.N.VarintType.value_of (packed l.packed).items ≡ l.fn.numbers ++ map g.N.VarintType.value_of (packed l.fn.packed).items;
  fault : (packed l.packed).fault ≡ (packed l.fn.packed).fault;
  part : (part : List g.row.N.Denot) × (l.numbers ≡ l.fn.numbers ++ part);
}

abbrev pub decreases-loop-number : goal.decreases-loop-number
decreases-loop-number g l = length l.packed.rest
