-- Walks, step by step.
use Rattle.mum_fields.proofs.Common.{◌≡◌, ℕ, zero, suc, ◌<◌, ◌≤◌, false, cond, eqb, eq-eqb, List, [], ◌++◌, length, take, Result, Ok, Err, refl, sym, ap, ◌∙◌, append_assoc, arith, append_cancel_left, take-append_seam, ne_eqb, FieldFault, Cursor, Walk, ended, stopped_by, first, walk_more, walk_with, walk}

-- each step takes a byte or more
abbrev pub Shortens : {X : Type 0} → (Cursor → Result (X × Cursor) FieldFault) → Type 0
Shortens {X} step = (c after : Cursor) (x : X) → step c ≡ Ok (x, after) → length after.rest < length c.rest

by_step : {X : Type 0} (step : Cursor → Result (X × Cursor) FieldFault) (c : Cursor) (f g : Cursor → Walk X) (r : Result (X × Cursor) FieldFault) → step c ≡ r
    → ((x : X) (after : Cursor) → step c ≡ Ok (x, after) → f after ≡ g after) → walk_more f r ≡ walk_more g r
by_step step c f g (Err e) is same = refl
by_step step c f g (Ok found) is same = ap (first found.0) (same found.0 found.1 is)

-- it does not matter how many steps may be taken, where they are as many as bytes
walk_with-most : {X : Type 0} (step : Cursor → Result (X × Cursor) FieldFault) → Shortens step → (m n : ℕ) (c : Cursor) → length c.rest ≤ m → length c.rest ≤ n → walk_with step m c ≡ walk_with step n c
walk_with-most step shortens zero zero c p q = refl
walk_with-most step shortens zero (suc n) c p q = rw (eq-eqb (length c.rest) 0 (omega arith)) refl
walk_with-most step shortens (suc m) zero c p q = rw (eq-eqb (length c.rest) 0 (omega arith)) refl
walk_with-most step shortens (suc m) (suc n) c p q =
    ap (λ others. cond (eqb (length c.rest) 0) ended others)
    (by_step step c (walk_with step m) (walk_with step n) (step c) refl
    (λ x after is. walk_with-most step shortens m n after (omega (arith, shortens c after x is)) (omega (arith, shortens c after x is))))

pub walk-end : {X : Type 0} (step : Cursor → Result (X × Cursor) FieldFault) (c : Cursor) → c.rest ≡ [] → walk step c ≡ ended
unfolding walk
walk-end step c empty = rw empty refl

pub walk-item : {X : Type 0} (step : Cursor → Result (X × Cursor) FieldFault) → Shortens step → (c after : Cursor) (x : X) → step c ≡ Ok (x, after) → walk step c ≡ first x (walk step after)
unfolding walk
walk-item step shortens c after x is = by_length (length c.rest) refl
  where
    by_length : (m : ℕ) → length c.rest ≡ m → walk_with step (length c.rest) c ≡ first x (walk_with step (length after.rest) after)
    by_length zero e = absurd (omega (arith, shortens c after x is))
    by_length (suc m) e =
        let some : eqb (length c.rest) 0 ≡ false = ne_eqb (length c.rest) 0 (λ none. omega arith) in
        rw (e, some, is) (ap (first x) (walk_with-most step shortens m (length after.rest) after (omega (arith, shortens c after x is)) (omega arith)))

pub walk-fault : {X : Type 0} (step : Cursor → Result (X × Cursor) FieldFault) (c : Cursor) (e : FieldFault) → 0 < length c.rest → step c ≡ Err e → walk step c ≡ stopped_by e
unfolding walk
walk-fault {X} step c e some is = by_length (length c.rest) refl
  where
    by_length : (m : ℕ) → length c.rest ≡ m → walk_with step (length c.rest) c ≡ stopped_by {X = X} e
    by_length zero h = absurd (omega arith)
    by_length (suc m) h =
        let more : eqb (length c.rest) 0 ≡ false = ne_eqb (length c.rest) 0 (λ none. omega arith) in
        rw (h, more, is) refl

-- what was added so far is a front of all that there is to add
pub front-of : {X : Type 0} (before part rest all now : List X) → now ≡ before ++ part → now ++ rest ≡ before ++ all → now ≡ before ++ take (length part) all
front-of before part rest all now is whole =
    let same : part ++ rest ≡ all = append_cancel_left before (part ++ rest) all (sym (append_assoc before part rest) ∙ ap (λ x. x ++ rest) (sym is) ∙ whole) in
    is ∙ ap (λ x. before ++ x) (sym (take-append_seam part rest)) ∙ ap (λ x. before ++ take (length part) x) same
