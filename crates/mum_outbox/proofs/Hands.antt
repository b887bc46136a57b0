-- Lists in which each element comes before each later one, and the hands of passes after one of them has changed.
use Rattle.mum_outbox.proofs.Common.{◌≡◌, ◌≢◌, ℕ, zero, suc, ◌<◌, ◌⊎◌, inl, inr, ⊎_elim, List, [], ◌∷◌, ◌++◌, length, set, get_or, sym, refl, ap, ◌∙◌, subst, arith, All, AllPairs, Contains, All-nil, All-cons, All-head, All-tail, All-contains, Contains-append_right, some-injective, some-ne-none, dite, ℕ_discrete, get_elem?, at_set, set_here, set_else, at_longer, Tagged, Hand, StandsAt, EachHand, EachTwo, IsAsOffered, IsSomewhere}

module _ {A : Type 0} where
  pub within : (xs : List A) (place : ℕ) (x : A) → StandsAt xs place x → place < length xs
  within [] place x e = absurd (some-ne-none x (sym e))
  within (y ∷ xs) zero x e = omega arith
  within (y ∷ xs) (suc place) x e = let h = within xs place x e in omega arith

  pub same_there : (xs : List A) (place other : ℕ) (x y : A) → StandsAt xs place x → StandsAt xs other y → place ≡ other → x ≡ y
  same_there xs place other x y e f same = some-injective x y (sym e ∙ ap (get_elem? xs) same ∙ f)

  pub pushed_cases : (xs : List A) (x y : A) (place : ℕ) → StandsAt (xs ++ x ∷ []) place y → StandsAt xs place y ⊎ ((place ≡ length xs) × (x ≡ y))
  pushed_cases [] x y zero e = inr (refl, some-injective x y e)
  pushed_cases [] x y (suc place) e = absurd (some-ne-none y (sym e))
  pushed_cases (z ∷ xs) x y zero e = inl e
  pushed_cases (z ∷ xs) x y (suc place) e = ⊎_elim (λ old. inl old) (λ t. inr (ap suc t.0, t.1)) (pushed_cases xs x y place e)

  pub Contains-cons_cases : (x y : A) (xs : List A) → Contains (x ∷ xs) y → (x ≡ y) ⊎ Contains xs y
  Contains-cons_cases x y xs c = at c.0 c.1 c.2 where
    at : (k : ℕ) → k < length (x ∷ xs) → get_or (x ∷ xs) k y ≡ y → (x ≡ y) ⊎ Contains xs y
    at zero h e = inl e
    at (suc k) h e = inr (k, omega arith, e)

module _ {A : Type 0} (R : A → A → Type 0) where
  pub pairs_head : (x : A) (xs : List A) → AllPairs R (x ∷ xs) → All (R x) xs
  pairs_head x xs p k d h = p 0 (suc k) d (omega arith) (omega arith)

  pub pairs_tail : (x : A) (xs : List A) → AllPairs R (x ∷ xs) → AllPairs R xs
  pairs_tail x xs p i j d less h = p (suc i) (suc j) d (omega arith) (omega arith)

  pub pairs_cons : (x : A) (xs : List A) → All (R x) xs → AllPairs R xs → AllPairs R (x ∷ xs)
  pairs_cons x xs first others zero zero d less h = absurd (omega arith)
  pairs_cons x xs first others zero (suc j) d less h = first j d (omega arith)
  pairs_cons x xs first others (suc i) zero d less h = absurd (omega arith)
  pairs_cons x xs first others (suc i) (suc j) d less h = others i j d (omega arith) (omega arith)

  pub all_without : (P : A → Type 0) (front : List A) (x : A) (back : List A) → All P (front ++ x ∷ back) → All P (front ++ back)
  all_without P [] x back h = All-tail P x back h
  all_without P (y ∷ front) x back h = All-cons P y (front ++ back) (All-head P y (front ++ x ∷ back) h) (all_without P front x back (All-tail P y (front ++ x ∷ back) h))

  pub all_front : (P : A → Type 0) (front back : List A) → All P (front ++ back) → All P front
  all_front P [] back h = All-nil P
  all_front P (y ∷ front) back h = All-cons P y front (All-head P y (front ++ back) h) (all_front P front back (All-tail P y (front ++ back) h))

  pub pairs_without : (front : List A) (x : A) (back : List A) → AllPairs R (front ++ x ∷ back) → AllPairs R (front ++ back)
  pairs_without [] x back p = pairs_tail x back p
  pairs_without (y ∷ front) x back p =
      pairs_cons y (front ++ back) (all_without (R y) front x back (pairs_head y (front ++ x ∷ back) p)) (pairs_without front x back (pairs_tail y (front ++ x ∷ back) p))

  pub pairs_front : (front back : List A) → AllPairs R (front ++ back) → AllPairs R front
  pairs_front [] back p = λ i j d less h. absurd (omega arith)
  pairs_front (y ∷ front) back p = pairs_cons y front (all_front (R y) front back (pairs_head y (front ++ back) p)) (pairs_front front back (pairs_tail y (front ++ back) p))

  pub pairs_across : (front : List A) (x y : A) (back : List A) → AllPairs R (front ++ back) → Contains front x → Contains back y → R x y
  pairs_across [] x y back p c d = absurd (omega (arith, c.1))
  pairs_across (z ∷ front) x y back p c d =
      ⊎_elim (λ (is : z ≡ x). All-contains (R x) (front ++ back) y (subst (λ u. All (R u) (front ++ back)) is (pairs_head z (front ++ back) p)) (Contains-append_right front back y d))
      (λ later. pairs_across front x y back (pairs_tail z (front ++ back) p) later d) (Contains-cons_cases z x front c)

module _ {I : Type 0} where
  -- each pass is still there, with its number and all that it had offered and taken
  abbrev pub Follows : List (Hand I) → List (Hand I) → Type 0
  Follows hands after = (port : ℕ) (hand : Hand I) → StandsAt hands port hand → (now : Hand I) × StandsAt after port now × (now.number ≡ hand.number)
      × ((place : ℕ) (item : I) → StandsAt hand.offered place item → StandsAt now.offered place item) × ((x : Tagged I) → Contains hand.taken x → Contains now.taken x)

  pub follows_set : (hands : List (Hand I)) (port : ℕ) (v w : Hand I) → StandsAt hands port v → w.number ≡ v.number
      → ((place : ℕ) (item : I) → StandsAt v.offered place item → StandsAt w.offered place item) → ((x : Tagged I) → Contains v.taken x → Contains w.taken x) → Follows hands (set hands port w)
  follows_set hands port v w at number offered taken j hand e =
      dite (ℕ_discrete j port)
      (λ (same : j ≡ port). let is : hand ≡ v = same_there hands j port hand v e at same in (
        w,
        subst (λ k. StandsAt (set hands port w) k w) (sym same) (set_here hands port w (within hands port v at)),
        number ∙ ap (λ (u : Hand I). u.number) (sym is),
        (λ place item s. offered place item (subst (λ (u : Hand I). StandsAt u.offered place item) is s)),
        λ x c. taken x (subst (λ (u : Hand I). Contains u.taken x) is c),
      ))
      (λ other. (hand, set_else hands port j w other ∙ e, refl, (λ place item s. s), λ x c. c))

  pub follows_push : (hands after : List (Hand I)) (new : Hand I) → Follows hands after → Follows hands (after ++ new ∷ [])
  follows_push hands after new f port hand e = let now = f port hand e in (now.0, at_longer after (new ∷ []) port now.0 now.1, now.2, now.3, now.4)

  pub as_offered_still : (hands after : List (Hand I)) (x : Tagged I) → Follows hands after → IsAsOffered hands x → IsAsOffered after x
  as_offered_still hands after x f is numbered = let was = is numbered in let now = f was.0 was.1 was.2 in (was.0, now.0, now.1, now.2 ∙ was.3, now.3 x.place x.item was.4)

  pub somewhere_still : (items left : List (Tagged I)) (hands after : List (Hand I)) (x : Tagged I) → Follows hands after → (Contains items x → IsSomewhere left after x) → IsSomewhere items hands x → IsSomewhere left after x
  somewhere_still items left hands after x f inside is = ⊎_elim inside (λ t. let now = f t.0 t.1 t.2 in inr (t.0, now.0, now.1, now.4 x t.3)) is

  pub each_set : (P : Hand I → Type 0) (hands : List (Hand I)) (port : ℕ) (w : Hand I) → P w → ((j : ℕ) (u : Hand I) → j ≢ port → StandsAt hands j u → P u) → EachHand (set hands port w) P
  each_set P hands port w mine others j u e = ⊎_elim (λ (x : (j ≡ port) × (w ≡ u)). subst P x.1 mine) (λ (x : (j ≢ port) × StandsAt hands j u). others j u x.0 x.1) (at_set hands port j w u e)

  pub two_set : (R : Hand I → Hand I → Type 0) (hands : List (Hand I)) (port : ℕ) (w : Hand I) → ((j : ℕ) (u : Hand I) → j ≢ port → StandsAt hands j u → R w u × R u w) → EachTwo hands R → EachTwo (set hands port w) R
  two_set R hands port w mine others p q u s ne e f =
      ⊎_elim
      (λ (x : (p ≡ port) × (w ≡ u)). ⊎_elim (λ (y : (q ≡ port) × (w ≡ s)). absurd (ne (x.0 ∙ sym y.0))) (λ (y : (q ≢ port) × StandsAt hands q s). subst (λ k. R k s) x.1 (mine q s y.0 y.1).0) (at_set hands port q w s f))
      (λ (x : (p ≢ port) × StandsAt hands p u). ⊎_elim (λ (y : (q ≡ port) × (w ≡ s)). subst (λ k. R u k) y.1 (mine p u x.0 x.1).1) (λ (y : (q ≢ port) × StandsAt hands q s). others p q u s ne x.1 y.1) (at_set hands port q w s f))
      (at_set hands port p w u e)

  pub each_push : (P : Hand I → Type 0) (hands : List (Hand I)) (new : Hand I) → P new → EachHand hands P → EachHand (hands ++ new ∷ []) P
  each_push P hands new mine others j u e = ⊎_elim (λ old. others j u old) (λ (x : (j ≡ length hands) × (new ≡ u)). subst P x.1 mine) (pushed_cases hands new u j e)

  pub two_push : (R : Hand I → Hand I → Type 0) (hands : List (Hand I)) (new : Hand I) → EachHand hands (λ u. R new u × R u new) → EachTwo hands R → EachTwo (hands ++ new ∷ []) R
  two_push R hands new mine others p q u s ne e f =
      ⊎_elim
      (λ (x : StandsAt hands p u). ⊎_elim (λ (y : StandsAt hands q s). others p q u s ne x y) (λ (y : (q ≡ length hands) × (new ≡ s)). subst (λ k. R u k) y.1 (mine p u x).1) (pushed_cases hands new s q f))
      (λ (x : (p ≡ length hands) × (new ≡ u)). ⊎_elim (λ (y : StandsAt hands q s). subst (λ k. R k s) x.1 (mine q s y).0) (λ (y : (q ≡ length hands) × (new ≡ s)). absurd (ne (x.0 ∙ sym y.0))) (pushed_cases hands new s q f))
      (pushed_cases hands new u p e)
