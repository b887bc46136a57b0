use Rattle.mum_tree.proofs.Common.{◌+◌, ◌*◌, ◌≤◌, take, vec_capacity, vec_len, count_by, Row}
use Rattle.mum_tree.proofs.Relinked.{after_test, AreSettled}
use Rattle.mum_tree.proofs.links.change_links.Given as goal

abbrev pub invariant-loop-row : goal.invariant-loop-row
invariant-loop-row l = record {
  settled : AreSettled l.rows l.initial.links.items l.links.items l.id l.adds l.removes l.row-index;
  room : vec_len l.links + 128 ≤ vec_capacity l.links + 2 * count_by (λ (row : Row). after_test l.initial.links.items l.id l.adds l.removes row.channel.id) (take l.row-index l.rows);
}
