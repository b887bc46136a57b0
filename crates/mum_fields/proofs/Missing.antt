-- The least of numbers that are missing, one by one.
use Rattle.mum_fields.proofs.Common.{◌≡◌, ℕ, List, [], ◌∷◌, ◌++◌, Option, Some, None, refl, ap, sym, arith, lesser, least}

lesser-assoc : (a b c : Option ℕ) → lesser (lesser a b) c ≡ lesser a (lesser b c)
lesser-assoc None b c = refl
lesser-assoc (Some n) None c = refl
lesser-assoc (Some n) (Some m) None = refl
lesser-assoc (Some n) (Some m) (Some k) = ap Some (omega arith)

lesser-none : (a : Option ℕ) → lesser a None ≡ a
lesser-none None = refl
lesser-none (Some n) = refl

pub least-more : (xs : List (Option ℕ)) (x : Option ℕ) → least (xs ++ x ∷ []) ≡ lesser (least xs) x
least-more [] x = lesser-none x
least-more (y ∷ ys) x = rw (least-more ys x) (sym (lesser-assoc y (least ys) x))
