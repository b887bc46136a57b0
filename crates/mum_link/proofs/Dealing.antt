-- Each role is in the lane of its thread.
use Rattle.mum_link.proofs.Common.{◌≡◌, ℕ, zero, suc, ◌+◌, ◌<◌, ◌==◌, Bool, true, false, List, [], ◌∷◌, ◌++◌, length, refl, sym, ap, subst, ◌∙◌, arith, slice_index_or, if◌then◌else◌, Contains, eq-eqb, Contains-append_left, Contains-append_right, IsDealt, hand}

here : (test : Bool) (x : ℕ) → test ≡ true → Contains (if test then x ∷ [] else []) x
here true x e = (0, omega arith, refl)
here false x e = absurd cc

in_hand : (of : ℕ → ℕ) (place k d : ℕ) (xs : List ℕ) → k < length xs → Contains (hand of (of (place + k)) place xs) (slice_index_or xs k d)
in_hand of place k d [] lt = absurd (omega arith)
in_hand of place zero d (x ∷ xs) lt =
    let at : of (place + 0) ≡ of place = ap of (omega arith) in
    Contains-append_right (hand of (of (place + 0)) (place + 1) xs) _ x (here (of place == of (place + 0)) x (eq-eqb (of place) (of (place + 0)) (sym at)))
in_hand of place (suc k) d (x ∷ xs) lt =
    let at : place + 1 + k ≡ place + suc k = omega arith in
    Contains-append_left (hand of (of (place + suc k)) (place + 1) xs) _ (slice_index_or xs k d)
    (subst (λ (n : ℕ). Contains (hand of (of n) (place + 1) xs) (slice_index_or xs k d)) at (in_hand of (place + 1) k d xs (omega arith)))

pub in_its_lane : (of : ℕ → ℕ) (lanes : List (List ℕ)) (roles : List ℕ) (k : ℕ) → IsDealt of (λ lane. lane) lanes roles → k < length roles → of k < length lanes
    → Contains (slice_index_or lanes (of k) []) (slice_index_or roles k 0)
in_its_lane of lanes roles k dealt lt fits =
    let from_the_first : 0 + k ≡ k = omega arith in
    subst (λ (lane : List ℕ). Contains lane (slice_index_or roles k 0)) (sym (dealt (of k) [] fits))
    (subst (λ (n : ℕ). Contains (hand of (of n) 0 roles) (slice_index_or roles k 0)) from_the_first (in_hand of 0 k 0 roles lt))
