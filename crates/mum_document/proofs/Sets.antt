-- Sets of what was met: what is new goes last.
use Rattle.mum_document.proofs.Common.{◌≡◌, ℕ, Bool, true, false, not, List, [], ◌∷◌, ◌++◌, map, None, refl, sym, Bor, list_any, map-append, insert_key, ConfigFault, against, within}

-- where nothing is said, what would have been said does not hold
pub none_against : (way : List ℕ) (cause : ConfigFault) (holds : Bool) → within way (against cause holds) ≡ None → holds ≡ false
unfolding within
none_against way cause true none = absurd (cc)
none_against way cause false none = refl

pub inserted : {T : Type 0} (eq : T → T → Bool) (keys new : List T) (k : T) (added : Bool) → added ≡ not (list_any (eq k) keys) → new ≡ insert_key eq keys k → not added ≡ false
    → new ≡ keys ++ k ∷ []
inserted {T} eq keys new k added is becomes not_twice = step (list_any (eq k) keys) refl
  where
    step : (has : Bool) → list_any (eq k) keys ≡ has → new ≡ keys ++ k ∷ []
    step true has = let bad : false ≡ true = sym (rw (is, has) at not_twice) in absurd (cc)
    step false has = rw has at becomes

pub inserted_names : (keys new : List (Bor (List ℕ))) (k : Bor (List ℕ)) (name : List ℕ) → new ≡ keys ++ k ∷ [] → k.now ≡ name → map (λ n. n.now) new ≡ map (λ n. n.now) keys ++ name ∷ []
inserted_names keys new k name is named = rw (is, map-append (λ (n : Bor (List ℕ)). n.now) keys (k ∷ []), named) refl
