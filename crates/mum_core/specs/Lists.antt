-- One element of a list changed.
use Rattle.std.specs.Prelude.{ℕ, List, Option, Some, None, slice_get, slice_set}

-- the list with the element that was found at a place changed; nothing changes where none was
abbrev pub with_found : {A : Type 0} → List A → ℕ → (A → A) → Option A → List A
with_found xs i change None = xs
with_found xs i change (Some x) = slice_set xs i (change x)

abbrev pub changed_at : {A : Type 0} → ℕ → (A → A) → List A → List A
changed_at i change xs = with_found xs i change (slice_get xs i)
