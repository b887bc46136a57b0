use Rattle.mum_tree.proofs.Common.{◌≡◌, ℕ, ◌<◌, ◌≤◌, Bool, eqb, length, get_or, map, take, filter, Row}
use Rattle.mum_tree.proofs.Numbered.{AreBefore}
use Rattle.mum_tree.proofs.components.mark_component.Given as goal

abbrev pub invariant-loop-k : goal.invariant-loop-k
invariant-loop-k l = record {
  few : length l.scratch ≤ l.k;
  before : AreBefore l.rows l.k l.scratch;
  marked : (chosen : Row → Bool) → ((k : ℕ) (row : Row) → k < length l.rows → chosen (get_or l.rows k row) ≡ eqb (get_or l.numbers k 0) (get_or l.numbers l.fn.at 0)) →
      l.scratch ≡ map (λ (row : Row). row.channel.id) (filter chosen (take l.k l.rows));
}
