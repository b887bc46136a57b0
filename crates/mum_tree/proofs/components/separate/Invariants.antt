use Rattle.mum_tree.proofs.Common.{◌≡◌, ℕ, ◌<◌, length, get_or}
use Rattle.mum_tree.proofs.components.separate.Given as goal

abbrev pub invariant-loop-at : goal.invariant-loop-at
invariant-loop-at l = record {
  whole : length l.numbers ≡ length l.initial.numbers;
  alone : (k : ℕ) → k < l.at → get_or l.numbers k 0 ≡ k;
}
