use Rattle.mum_tree.proofs.Common.{◌≡◌, ℕ, ◌≤◌, length, Descends, IsForest}
use Rattle.mum_tree.proofs.components.find_first.Given as goal

abbrev pub invariant-loop-numbers : goal.invariant-loop-numbers
invariant-loop-numbers l = record {
  whole : length l.numbers ≡ length l.initial.numbers;
  within : l.at ≤ l.from;
  down : Descends l.numbers;
  found : (first : ℕ → ℕ) → IsForest l.initial.numbers first → IsForest l.numbers first × (first l.at ≡ first l.from);
}

abbrev pub decreases-loop-numbers : goal.decreases-loop-numbers
decreases-loop-numbers l = l.at
