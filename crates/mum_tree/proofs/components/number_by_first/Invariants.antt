use Rattle.mum_tree.proofs.Common.{◌≡◌, ℕ, ◌<◌, ◌≤◌, length, get_or, IsForest}
use Rattle.mum_tree.proofs.components.number_by_first.Given as goal

abbrev pub invariant-loop-at : goal.invariant-loop-at
invariant-loop-at l = record {
  whole : length l.numbers ≡ length l.initial.numbers;
  rest : (k : ℕ) → l.at ≤ k → get_or l.numbers k 0 ≡ get_or l.initial.numbers k 0;
  done : (first : ℕ → ℕ) (k : ℕ) → IsForest l.initial.numbers first → k < l.at → get_or l.numbers k 0 ≡ first k;
}
