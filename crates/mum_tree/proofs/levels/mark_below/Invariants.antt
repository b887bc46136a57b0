use Rattle.mum_tree.proofs.Common.{◌≡◌, ◌≤◌, length, map, take, filter, Row, is_below, AreLevels}
use Rattle.mum_tree.proofs.Numbered.{AreBefore}
use Rattle.mum_tree.proofs.levels.mark_below.Given as goal

abbrev pub invariant-loop-at : goal.invariant-loop-at
invariant-loop-at l = record {
  room : length l.known ≡ 2048;
  right : AreLevels l.rows l.top l.known;
  few : length l.scratch ≤ l.at;
  before : AreBefore l.rows l.at l.scratch;
  marked : l.scratch ≡ map (λ (row : Row). row.channel.id) (filter (λ (row : Row). is_below l.rows l.fn.top row.channel.id) (take l.at l.rows));
}
