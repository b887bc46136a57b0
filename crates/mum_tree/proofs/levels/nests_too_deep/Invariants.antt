use Rattle.mum_tree.proofs.Common.{◌≡◌, false, length, take, list_any, nests, AreLevels}
use Rattle.mum_tree.proofs.levels.nests_too_deep.Given as goal

abbrev pub invariant-loop-at : goal.invariant-loop-at
invariant-loop-at l = record {
  room : length l.known ≡ 2048;
  right : AreLevels l.rows l.fn.id l.known;
  none : list_any (nests l.rows l.fn.id l.fn.parent) (take l.at l.rows) ≡ false;
}
