use Rattle.mum_keeper.proofs.Common.{◌≡◌, ◌≤◌, ◌+◌, ◌-◌, ◌++◌, drop, length, map, unmatched}
use Rattle.mum_keeper.proofs.merge.add_additions.Given as goal

abbrev pub invariant-loop-at : goal.invariant-loop-at
invariant-loop-at g l = record {
  rest : l.changes.items ++ map g.T.Row.come (unmatched g.T.Row.before g.T.Row.same (drop l.at l.rows) (drop l.at_other l.others))
      ≡ l.fn.changes.items ++ map g.T.Row.come (unmatched g.T.Row.before g.T.Row.same l.rows l.others);
  within : l.at ≤ length l.rows;
  within_other : l.at_other ≤ length l.others;
}

abbrev pub decreases-loop-at : goal.decreases-loop-at
decreases-loop-at g l = (length l.rows - l.at) + (length l.others - l.at_other)
