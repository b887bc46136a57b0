-- Numbers that are looked up.
use Rattle.std.specs.Prelude.{◌≡◌, ℕ, ◌==◌, Bool, List}
use Rattle.std.specs.List.{list_any}

-- the number is in the list
abbrev pub lists : List ℕ → ℕ → Bool
lists numbers number = list_any (λ one. one == number) numbers

-- each number is in both lists or in neither
abbrev pub ListAlike : List ℕ → List ℕ → Type 0
ListAlike numbers others = (number : ℕ) → lists numbers number ≡ lists others number
