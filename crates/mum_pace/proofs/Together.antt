-- How each step of a link keeps what all of them hold together.
use Rattle.mum_pace.proofs.Common.{◌≡◌, ℕ, zero, suc, ◌+◌, ◌-◌, ◌%◌, ◌^◌, ◌<◌, ◌≤◌, eqb, List, [], ◌∷◌, ◌++◌, get_or, set, sym, ap, refl, subst, ◌∙◌, arith, length-set, get_or-set_same, eq-eqb, ne_eqb, sum, sum_by-cons, sum_by_push, dite, none, some, some-injective, some-ne-none, ℕ_discrete, get_elem?, either, Allows, Enters, Me, State, keeps, step, stepped, set_again, Comes, Exchanges, GivesBack, IsHeldTogether, LONG_FRAMES_LIMIT}

cons : (x : ℕ) (xs : List ℕ) → sum (x ∷ xs) ≡ x + sum xs
cons x xs = sum_by-cons (λ (n : ℕ). n) x xs

-- where one of them is another
sum_set : (l : List ℕ) (i v w : ℕ) → get_elem? l i ≡ some v → sum (set l i w) + v ≡ sum l + w
sum_set [] i v w e = absurd (some-ne-none v (sym e))
sum_set (x ∷ xs) zero v w e =
    let is : x ≡ v = some-injective x v e in let a = cons w xs in let b = cons x xs in omega arith
sum_set (x ∷ xs) (suc i) v w e =
    let r = sum_set xs i v w e in let a = cons x (set xs i w) in let b = cons x xs in omega arith

-- a new link holds nothing
pub comes : (slots : ℕ) → Enters {S = Unit {0}} IsHeldTogether slots 0 (λ n w. Comes {S = Unit {0}} (step slots 0 0 0 none) (0, []) n (w, []))
comes slots s r _ _ = let same : sum (s.views ++ 0 ∷ []) ≡ sum s.views = sum_by_push (λ (n : ℕ). n) s.views 0 ∙ omega arith in (
  0,
  (r.0, r.1 ∙ sym same, r.2),
  refl,
)

abbrev M : Type 0
M = Me (Unit {0}) ℕ

abbrev St : Type 0
St = State (Unit {0}) ℕ

-- the word is another, and what one link holds makes up for it
placed : (s : St) (r : IsHeldTogether s) (n id : ℕ) (me : M) (w : ℕ) → sum (set s.views id w) ≡ n → n ≤ LONG_FRAMES_LIMIT → IsHeldTogether (stepped s 0 n id me.1 w keeps)
placed s r n id me w is fits = let wide = r.0 in let here = get_or-set_same s.words 0 n 0 (omega arith) in
    (length-set s.words 0 n ∙ wide, here ∙ sym is, subst (λ (k : ℕ). k ≤ LONG_FRAMES_LIMIT) (sym here) fits)

pub exchanges : (slots id : ℕ) (me : M) (old new : ℕ) → new ≤ LONG_FRAMES_LIMIT → old ≤ new
    → Allows IsHeldTogether slots id me 0 (λ x. either (eqb x old) new x) (Exchanges (step slots 0 old new none) me)
exchanges slots id me old new fits more s r _ at _ = let x : ℕ = get_or s.words 0 0 in dite (ℕ_discrete x old)
    (λ hit. let w : ℕ = me.0 + (new - old) in let made = sum_set s.views id me.0 w at in let is = r.1 in (
      w,
      keeps,
      tt,
      subst (λ b. IsHeldTogether (stepped s 0 (either b new x) id me.1 w keeps)) (sym (eq-eqb x old hit)) (placed s r new id me w (omega arith) fits),
      (refl, (λ _. omega arith), λ not. absurd (not hit)),
    ))
    (λ miss. (
      me.0,
      keeps,
      tt,
      subst (λ b. IsHeldTogether (stepped s 0 (either b new x) id me.1 me.0 keeps)) (sym (ne_eqb x old miss))
          (placed s r x id me me.0 (ap sum (set_again s.views id me.0 at) ∙ sym r.1) r.2),
      (refl, (λ hit. absurd (miss hit)), λ _. refl),
    ))

pub gives_back : (slots id : ℕ) (me : M) (bytes : ℕ) → bytes ≤ me.0
    → Allows IsHeldTogether slots id me 0 (λ x. (x + (2 ^ 64 - bytes)) % 2 ^ 64) (GivesBack (step slots 0 bytes 0 none) me)
gives_back slots id me bytes held s r _ at small =
    let x : ℕ = get_or s.words 0 0 in let w : ℕ = me.0 - bytes in let made = sum_set s.views id me.0 w at in let none_held = sum_set s.views id me.0 0 at in
    let is = r.1 in let within = r.2 in let fits : x < 18446744073709551616 = small in let less : x - bytes ≡ (x + (18446744073709551616 - bytes)) % 18446744073709551616 = omega arith in (
      w,
      keeps,
      tt,
      subst (λ (z : ℕ). IsHeldTogether (stepped s 0 z id me.1 w keeps)) less (placed s r (x - bytes) id me w (omega arith) (omega arith)),
      (refl, omega arith),
    )
