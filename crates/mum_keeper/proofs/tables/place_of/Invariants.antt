use Rattle.mum_keeper.proofs.Common.{◌≡◌, ◌≤◌, ◌+◌, ◌-◌, drop, length, place_of}
use Rattle.mum_keeper.proofs.tables.place_of.Given as goal

abbrev pub invariant-loop-at : goal.invariant-loop-at
invariant-loop-at g l = record {
  rest : l.at + place_of g.T.Row.before l.new (drop l.at l.rows) ≡ place_of g.T.Row.before l.new l.rows;
  within : l.at ≤ length l.rows;
}

abbrev pub decreases-loop-at : goal.decreases-loop-at
decreases-loop-at g l = length l.rows - l.at
