-- Lists of one word.
use Rattle.mum_server.proofs.Common.{◌≡◌, ℕ, ◌<◌, ◌≤◌, List, [], ◌∷◌, length, get_or, sym, ap, arith, map}

pub map_one : {X : Type 0} (f : X → List ℕ) (xs : List X) (x : X) → 1 ≤ length xs → length xs < 2 → x ≡ get_or xs 0 x → map f xs ≡ f x ∷ []
map_one f [] x low high is = absurd (omega arith)
map_one f (y ∷ []) x low high is = ap (λ z. f z ∷ []) (sym is)
map_one f (y ∷ z ∷ more) x low high is = absurd (omega arith)

pub one_is : (a b : List ℕ) → a ∷ [] ≡ b ∷ [] → a ≡ b
one_is a b e = cc
