use Rattle.mum_tree.proofs.Common.{◌≡◌, ◌≢◌, ℕ, ◌<◌, ◌≤◌, true, false, length, get_or, count_by, IsFree, Row}
use Rattle.mum_tree.proofs.rows.taken_places.Given as goal

abbrev pub invariant-loop-row : goal.invariant-loop-row
invariant-loop-row l = record {
  whole : length l.taken ≡ 2048;
  free : (place : ℕ) → place < 2048 → get_or l.taken place false ≡ false → (k : ℕ) (d : Row) → k < l.row-index → (get_or l.rows k d).place ≢ place;
  taken : (place : ℕ) → get_or l.taken place false ≡ true → IsFree l.rows place → ⊥;
  count : count_by (λ one. one) l.taken ≤ l.row-index;
}
