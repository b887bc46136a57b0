use Rattle.mum_users.proofs.Common.{◌≡◌, ◌≤◌, length, drop, vec_capacity, vec_len, Rises, mask_below, without_pairs}
use Rattle.mum_users.proofs.masks.clear_pairs.Given as goal

abbrev pub invariant-pairs : goal.invariant-pairs
invariant-pairs l = record {
  rest : l.rest ≤ length l.pairs;
  items : l.rows.items ≡ without_pairs l.slot.0 (drop l.rest l.pairs) l.initial.rows.items;
  rise : Rises mask_below l.rows.items;
  len : vec_len l.rows ≤ vec_len l.initial.rows;
  room : vec_capacity l.initial.rows ≤ vec_capacity l.rows;
}

abbrev pub decreases-pairs : goal.decreases-pairs
decreases-pairs l = l.rest
