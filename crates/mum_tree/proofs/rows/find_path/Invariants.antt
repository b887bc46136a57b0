use Rattle.mum_tree.proofs.Common.{◌≡◌, ◌≤◌, ◌-◌, ◌++◌, length, IsTrue, Contains, is_there, upward}
use Rattle.mum_tree.proofs.rows.find_path.Given as goal

abbrev pub invariant-loop-channels : goal.invariant-loop-channels
invariant-loop-channels l = record {
  within : length l.channels.items ≤ 33;
  front : l.channels.items ++ upward l.rows (33 - length l.channels.items) l.at ≡ upward l.rows 33 l.fn.id;
  lead : IsTrue (is_there l.rows l.fn.id) → Contains (upward l.rows (33 - length l.channels.items) l.at) (record { 0 = 0 });
}

abbrev pub decreases-loop-channels : goal.decreases-loop-channels
decreases-loop-channels l = 33 - length l.channels.items
