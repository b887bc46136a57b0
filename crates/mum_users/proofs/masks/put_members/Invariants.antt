use Rattle.mum_users.proofs.Common.{◌≡◌, ◌+◌, ◌≤◌, length, drop, vec_capacity, vec_len, Rises, mask_below, masks_of}
use Rattle.mum_users.proofs.masks.put_members.Given as goal

abbrev pub invariant-users : goal.invariant-users
invariant-users l = record {
  rest : l.rest ≤ length l.users;
  items : l.rows.items ≡ masks_of (drop l.rest l.users);
  rise : Rises mask_below l.rows.items;
  room : vec_len l.rows + l.rest ≤ vec_capacity l.rows;
  capacity : vec_capacity l.initial.rows ≤ vec_capacity l.rows;
}

abbrev pub decreases-users : goal.decreases-users
decreases-users l = l.rest
