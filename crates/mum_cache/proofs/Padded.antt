-- What is written of a table, with what follows it.
use Rattle.mum_cache.proofs.Common.{◌≡◌, ℕ, suc, ◌+◌, ◌-◌, ◌<◌, ◌≤◌, List, [], ◌∷◌, ◌++◌, length, get_or, replicate, set, refl, sym, ap, ◌∙◌, arith, append_assoc, get_or-append_right, get_or-replicate, get_or_append_left, length-append, length-replicate, length-set, length_push, set-append_left, padded}

pub padded_none : {X : Type 0} (room : ℕ) (blank : X) → padded room blank [] ≡ replicate room blank
unfolding padded
padded_none room blank = let same : room - 0 ≡ room = omega arith in ap (λ (n : ℕ). replicate n blank) same

pub padded_length : {X : Type 0} (room : ℕ) (blank : X) (written : List X) → length written ≤ room → length (padded room blank written) ≡ room
unfolding padded
padded_length room blank written few =
    let behind = length-replicate (room - length written) blank in
    length-append written (replicate (room - length written) blank) ∙ omega (arith, behind, few)

pub padded_written : {X : Type 0} (room : ℕ) (blank : X) (written : List X) (i : ℕ) (d : X) → i < length written
    → get_or (padded room blank written) i d ≡ get_or written i d
unfolding padded
padded_written room blank written i d within = get_or_append_left written (replicate (room - length written) blank) d i within

pub padded_behind : {X : Type 0} (room : ℕ) (blank : X) (written : List X) (i : ℕ) (d : X) → length written ≤ i → i < room
    → get_or (padded room blank written) i d ≡ blank
unfolding padded
padded_behind room blank written i d past within =
    get_or-append_right written (replicate (room - length written) blank) (length written) i d refl past
    ∙ get_or-replicate (room - length written) (i - length written) blank d (omega (arith, past, within))

replicate_first : {X : Type 0} (n m : ℕ) (blank : X) → n ≡ m + 1 → replicate n blank ≡ blank ∷ replicate m blank
replicate_first n m blank is = let same : n ≡ suc m = omega (arith, is) in ap (λ (k : ℕ). replicate k blank) same

pub padded_push : {X : Type 0} (room : ℕ) (blank : X) (written : List X) → length written < room
    → padded room blank (written ++ blank ∷ []) ≡ padded room blank written
unfolding padded
padded_push room blank written within =
    let more = length_push written blank in
    append_assoc written (blank ∷ []) (replicate (room - length (written ++ blank ∷ [])) blank)
    ∙ ap (λ (xs : List _). written ++ xs)
    (sym (replicate_first (room - length written) (room - length (written ++ blank ∷ [])) blank (omega (arith, more, within))))

pub padded_set : {X : Type 0} (room : ℕ) (blank : X) (written : List X) (i : ℕ) (value : X) → i < length written
    → padded room blank (set written i value) ≡ set (padded room blank written) i value
unfolding padded
padded_set room blank written i value within =
    ap (λ (n : ℕ). set written i value ++ replicate (room - n) blank) (length-set written i value)
    ∙ sym (set-append_left written (replicate (room - length written) blank) i value within)
