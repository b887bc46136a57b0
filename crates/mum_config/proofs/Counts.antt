-- Counts of links.
use Rattle.mum_config.proofs.Common.{◌≡◌, ℕ, ◌+◌, Bool, true, false, cond, not, ◌||◌, List, [], ◌∷◌, ◌++◌, Option, Some, refl, sym, ap, ◌∙◌, arith, count_by, zero-add, nat_eq, unwrap_or, lookup, sum_by-append, nat_tests, list_any, and_parts, insert_key, AreCounted, Ends, are_same, ends_of, is_end, is_new, link_count}

pub count_by-append : (test : Ends → Bool) (ends more : List Ends) → count_by test (ends ++ more) ≡ count_by test ends + count_by test more
count_by-append test ends more = sum_by-append (λ x. cond (test x) 1 0) ends more

-- the channel is one of the two
pub end_is : (a b channel : ℕ) → is_end channel (ends_of a b) ≡ (nat_eq a channel || nat_eq b channel)
end_is a b channel = grind (arith, nat_tests)

pub count_one : (holds : Bool) (test : Ends → Bool) (ends : Ends) → test ends ≡ holds → count_by test (ends ∷ []) ≡ cond holds 1 0
count_one holds test ends is = rw is (zero-add _)

counted_at : (in_a in_b : Bool) (kept kept-1 kept-2 : Option ℕ) (ca cb before : ℕ) → kept-1 ≡ cond in_a (Some (ca + 1)) kept → kept-2 ≡ cond in_b (Some (cb + 1)) kept-1 → unwrap_or kept 0 ≡ before
    → (in_a ≡ true → ca ≡ before) → (in_b ≡ true → cb ≡ before) → (in_a ≡ true → in_b ≡ true → ⊥) → unwrap_or kept-2 0 ≡ before + cond (in_a || in_b) 1 0
counted_at true true kept kept-1 kept-2 ca cb before first second was of_a of_b apart = absurd (apart refl refl)
counted_at true false kept kept-1 kept-2 ca cb before first second was of_a of_b apart = rw (second, first, of_a refl) refl
counted_at false true kept kept-1 kept-2 ca cb before first second was of_a of_b apart = rw (second, of_b refl) refl
counted_at false false kept kept-1 kept-2 ca cb before first second was of_a of_b apart = rw (second, first, was) (omega arith)

pub counted_more : (counts counts-1 counts-2 : List (ℕ × ℕ)) (met : List Ends) (a b ca cb : ℕ) → AreCounted counts met
    → ((q : ℕ) → lookup (nat_eq q) counts-1 ≡ cond (nat_eq a q) (Some (ca + 1)) (lookup (nat_eq q) counts))
    → ((q : ℕ) → lookup (nat_eq q) counts-2 ≡ cond (nat_eq b q) (Some (cb + 1)) (lookup (nat_eq q) counts-1))
    → ca ≡ link_count met a → cb ≡ link_count met b → nat_eq a b ≡ false → AreCounted counts-2 (met ++ ends_of a b ∷ [])
counted_more counts counts-1 counts-2 met a b ca cb counted first second of_a of_b apart = λ channel.
    counted_at (nat_eq a channel) (nat_eq b channel) (lookup (nat_eq channel) counts) _ _ ca cb (link_count met channel) (first channel) (second channel) (counted channel)
    (λ is. let same : a ≡ channel = grind (arith, nat_tests) in of_a ∙ ap (link_count met) same)
    (λ is. let same : b ≡ channel = grind (arith, nat_tests) in of_b ∙ ap (link_count met) same)
    (λ one other. grind (arith, nat_tests))
    ∙ sym (count_by-append (is_end channel) met (ends_of a b ∷ []) ∙ ap (λ n. link_count met channel + n) (count_one _ (is_end channel) (ends_of a b) (end_is a b channel)))

not_true : (holds : Bool) → not holds ≡ true → holds ≡ false
not_true true is = absurd (cc)
not_true false is = refl

pub apart : (met : List Ends) (a b : ℕ) → is_new met a b ≡ true → nat_eq a b ≡ false
apart met a b new = not_true (nat_eq a b) (and_parts (not (nat_eq a b)) _ new).0

pub new_ends : (keys after : List Ends) (k : Ends) (a b : ℕ) → after ≡ insert_key are_same keys k → k ≡ ends_of a b → is_new keys a b ≡ true → after ≡ keys ++ ends_of a b ∷ []
new_ends keys after k a b inserted is new =
    let absent : list_any (are_same (ends_of a b)) keys ≡ false = not_true _ (and_parts (not (nat_eq a b)) _ new).1 in
    rw (is, absent) at inserted
