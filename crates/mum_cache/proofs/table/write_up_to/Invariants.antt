use Rattle.mum_cache.proofs.Common.{◌≡◌, ◌+◌, ◌-◌, length, vec_capacity, padded}
use Rattle.mum_cache.proofs.table.write_up_to.Given as goal

abbrev pub invariant-numbers : goal.invariant-numbers
invariant-numbers g l = record {
  same : padded (vec_capacity l.written) l.blank l.written.items ≡ padded (vec_capacity l.initial.written) l.blank l.initial.written.items;
  room : vec_capacity l.written ≡ vec_capacity l.initial.written;
}

abbrev pub decreases-numbers : goal.decreases-numbers
decreases-numbers g l = l.number + 1 - length l.written.items
