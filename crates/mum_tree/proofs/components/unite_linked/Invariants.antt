use Rattle.mum_tree.proofs.Common.{◌≡◌, ℕ, length, AreUnited, Descends, IsForest}
use Rattle.mum_tree.proofs.components.unite_linked.Given as goal

abbrev pub invariant-loop-link : goal.invariant-loop-link
invariant-loop-link l = record {
  whole : length l.numbers ≡ length l.initial.numbers;
  down : Descends l.numbers;
  united : (first : ℕ → ℕ) × IsForest l.numbers first × AreUnited l.rows l.links l.link-index first;
}
