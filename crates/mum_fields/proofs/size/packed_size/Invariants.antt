use Rattle.mum_fields.proofs.Common.{◌≡◌, ◌+◌, ◌-◌, ◌^◌, ◌≤◌, length, map, min, packed, size, scalar_number, value_of, each_number}
use Rattle.mum_fields.proofs.size.packed_size.Given as goal

abbrev pub invariant-loop-varint : goal.invariant-loop-varint
invariant-loop-varint l = record {
  items : min (l.total + size (each_number (scalar_number l.scalar) l.number (map (value_of l.scalar) (packed l.numbers).items))) (2 ^ 64 - 1)
      ≡ size (each_number (scalar_number l.scalar) l.number (map (value_of l.scalar) (packed l.fn.numbers).items));
  few : l.total ≤ 2 ^ 64 - 1;
  fault : (packed l.numbers).fault ≡ (packed l.fn.numbers).fault;
}

abbrev pub decreases-loop-varint : goal.decreases-loop-varint
decreases-loop-varint l = length l.numbers.rest
