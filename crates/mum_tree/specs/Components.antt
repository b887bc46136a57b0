-- The components of the links: the channels that links lead to from one another, by a number beside each row.
use Rattle.std.specs.Prelude.{◌≡◌, ℕ, ◌<◌, ◌≤◌, ◌==◌, ◌↔◌, nat_lt, List, length, slice_index_or, if◌then◌else◌}
use Rattle.mum_tree.specs.declared.channel.Row.{Row}
use Rattle.mum_tree.specs.{State.Pair, Walks.LeadTo}

-- a number beside each row: two channels have one number exactly where links lead from one to the other
pub record AreComponents (rows : List Row) (links : List Pair) (numbers : List ℕ) : Type 0 where
  pub whole : length numbers ≡ length rows
  -- a number is the index of a row
  pub within : (k : ℕ) → k < length rows → slice_index_or numbers k 0 < length rows
  pub same : (k j : ℕ) (row : Row) → k < length rows → j < length rows →
      (slice_index_or numbers k 0 ≡ slice_index_or numbers j 0)
      ↔ LeadTo links (slice_index_or rows k row).channel.id (slice_index_or rows j row).channel.id

-- while components are found, each number leads to itself or to one before it, and so on to the first of its component
pub record IsForest (numbers : List ℕ) (first : ℕ → ℕ) : Type 0 where
  pub below : (k : ℕ) → k < length numbers → first k ≤ k
  pub down : (k : ℕ) → k < length numbers → slice_index_or numbers k 0 ≤ k
  pub along : (k : ℕ) → k < length numbers → first (slice_index_or numbers k 0) ≡ first k
  pub ends : (k : ℕ) → k < length numbers → slice_index_or numbers k 0 ≡ k → first k ≡ k

-- no number leads upwards
abbrev pub Descends : List ℕ → Type 0
Descends numbers = (k : ℕ) → k < length numbers → slice_index_or numbers k 0 ≤ k

-- what began at the one begins at the other
abbrev pub moved_to : (ℕ → ℕ) → ℕ → ℕ → ℕ → ℕ
moved_to first from to k = if first k == from then to else first k

-- the components of two rows as one, which begins where the lower of them does
abbrev pub united : (ℕ → ℕ) → ℕ → ℕ → ℕ → ℕ
united first a b k =
    if nat_lt (first a) (first b) then moved_to first (first b) (first a) k else moved_to first (first a) (first b) k

-- links lead to each channel from the first of its component, and each of these links is within one component
pub record AreUnited (rows : List Row) (links : List Pair) (many : ℕ) (first : ℕ → ℕ) : Type 0 where
  pub led : (k : ℕ) (row : Row) → k < length rows
      → LeadTo links (slice_index_or rows (first k) row).channel.id (slice_index_or rows k row).channel.id
  pub joined : (j a b : ℕ) (pair : Pair) (row : Row) → j < many → a < length rows → b < length rows →
      (slice_index_or rows a row).channel.id ≡ (slice_index_or links j pair).0
      → (slice_index_or rows b row).channel.id ≡ (slice_index_or links j pair).1 → first a ≡ first b
