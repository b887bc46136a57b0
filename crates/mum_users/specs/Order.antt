-- Lists in an order of their own.
use Rattle.std.specs.Prelude.{Bool, List, [], ◌∷◌, IsTrue, ⊤}

-- the first is below each of these
abbrev pub IsBelowAll : {X : Type 0} → (X → X → Bool) → X → List X → Type 0
IsBelowAll below first [] = ⊤
IsBelowAll below first (x ∷ xs) = IsTrue (below first x) × IsBelowAll below first xs

-- each is below all that come after it, so a set of them has one order
abbrev pub Rises : {X : Type 0} → (X → X → Bool) → List X → Type 0
Rises below [] = ⊤
Rises below (x ∷ xs) = IsBelowAll below x xs × Rises below xs
