-- What the texts of a pace say.
use Rattle.mum_pace.proofs.Common.{◌≡◌, ◌≢◌, ℕ, ◌^◌, ◌<◌, ◌==◌, ◌&&◌, nat_lt, Bool, true, false, List, length, Option, Some, None, Result, Ok, Err, MatchOption, refl, sym, ap, ◌∙◌, arith, inl, inr, if◌then◌else◌, Bor, and_parts, and_from, cases_eq, cond-true, cond-false, lt-ltb, le-ltb, ltb-true, eq-eqb, ne_eqb, false_from_ne_true, IsNumeralModel, numerals_by_value, tells_all_ascii_digits, IsSplitOnceResult, split_once_first, after_first, position_or_len, all_ascii_digits, bytes_eq, IsNumeral, ParsesUnsigned, digits_value, without_leading_plus, option_and_then, codes, OkIff, result_ok, Unlimited, Rate, are_digits, halves, number_of, number_of_digits, pace_of, pace_with, rate_of, rate_with}

-- ---- two halves

pub halves_are : (mark : ℕ) (text : List ℕ) (r : Option (Bor (List ℕ) × Bor (List ℕ))) → mark < 128 → IsSplitOnceResult mark text r
    → MatchOption r (halves mark text ≡ None) (λ parts. halves mark text ≡ Some (parts.0.now, parts.1.now))
unfolding halves
halves_are mark text None lt is =
    let none = split_once_first mark text None is lt in
    cond-false (nat_lt (position_or_len (λ b. b == mark) text) (length text)) _ None (le-ltb (position_or_len (λ b. b == mark) text) (length text) (omega arith))
halves_are mark text (Some x) lt is =
    let parts = split_once_first mark text (Some x) is lt in
    cond-true (nat_lt (position_or_len (λ b. b == mark) text) (length text)) _ None (lt-ltb (position_or_len (λ b. b == mark) text) (length text) parts.0)
    ∙ ap (λ (front : List ℕ). Some (front, after_first (λ b. b == mark) text)) (sym parts.1)
    ∙ ap (λ (back : List ℕ). Some (x.0.now, back)) (sym parts.2)

-- ---- a number

own : IsNumeralModel (λ ds. all_ascii_digits ds ≡ true) (digits_value 10)
own = numerals_by_value (λ ds. all_ascii_digits ds ≡ true) tells_all_ascii_digits

abbrev pub unless_0 : Option ℕ → Option ℕ
unless_0 None = None
unless_0 (Some n) = if n == 0 then None else Some n

numeral : (ds : List ℕ) → IsNumeral 10 ds → are_digits ds ≡ true
numeral ds is = and_from (nat_lt 0 (length ds)) (all_ascii_digits ds) (lt-ltb 0 (length ds) is.0) (own.from ds is.1)

of_numeral : (ds : List ℕ) → are_digits ds ≡ true → IsNumeral 10 ds
of_numeral ds e =
    let parts = and_parts (nat_lt 0 (length ds)) (all_ascii_digits ds) e in
    (ltb-true 0 (length ds) parts.0, own.to ds parts.1)

of_digits : {E : Type 0} (ds : List ℕ) (r : Result ℕ E) → OkIff r (IsNumeral 10 ds × (digits_value 10 ds < 2 ^ 32)) (digits_value 10 ds)
    → number_of_digits ds ≡ unless_0 (result_ok r)
of_digits ds (Ok x) is =
    let v : ℕ = digits_value 10 ds in
    let front = and_from (are_digits ds) (nat_lt v (2 ^ 32)) (numeral ds is.0.0) (lt-ltb v (2 ^ 32) is.0.1) in
    elim (cases_eq v 0) [
      | inl e ↦
          ap (λ (b : Bool). if b && nat_lt 0 v then Some v else None) front
          ∙ cond-false (nat_lt 0 v) (Some v) None (le-ltb 0 v (omega arith))
          ∙ sym (cond-true (x == 0) None (Some x) (eq-eqb x 0 (is.1 ∙ e)))
      | inr ne ↦
          ap (λ (b : Bool). if b && nat_lt 0 v then Some v else None) front
          ∙ cond-true (nat_lt 0 v) (Some v) None (lt-ltb 0 v (omega arith))
          ∙ ap (λ (n : ℕ). Some n) (sym is.1)
          ∙ sym (cond-false (x == 0) None (Some x) (ne_eqb x 0 (λ z. ne (sym is.1 ∙ z))))
    ]
of_digits ds (Err e) is =
    let v : ℕ = digits_value 10 ds in
    cond-false (are_digits ds && nat_lt v (2 ^ 32) && nat_lt 0 v) (Some v) None
    (false_from_ne_true (are_digits ds && nat_lt v (2 ^ 32) && nat_lt 0 v) (λ t.
    let front = and_parts (are_digits ds) (nat_lt v (2 ^ 32)) (and_parts (are_digits ds && nat_lt v (2 ^ 32)) (nat_lt 0 v) t).0 in
    is (of_numeral ds front.0, ltb-true v (2 ^ 32) front.1)))

pub number_is : {E : Type 0} (text : List ℕ) (r : Result ℕ E) → ParsesUnsigned 32 10 text r → number_of text ≡ unless_0 (result_ok r)
unfolding number_of
number_is text r is = of_digits (without_leading_plus text) r is

pub number_unless_0 : {E : Type 0} (text : List ℕ) (r : Result ℕ E) (o : Option ℕ) → ParsesUnsigned 32 10 text r → o ≡ result_ok r → number_of text ≡ unless_0 o
number_unless_0 text r o is e = number_is text r is ∙ ap unless_0 (sym e)

pub some_number : (n : ℕ) → n ≢ 0 → unless_0 (Some n) ≡ Some n
some_number n ne = cond-false (n == 0) None (Some n) (ne_eqb n 0 ne)

pub no_number : (n : ℕ) → n ≡ 0 → unless_0 (Some n) ≡ None
no_number n e = cond-true (n == 0) None (Some n) (eq-eqb n 0 e)

-- ---- a rate

pub no_rate : (text : List ℕ) → halves 47 text ≡ None → rate_of text ≡ None
unfolding rate_of
no_rate text e = ap (option_and_then (λ parts. rate_with (number_of parts.0) (number_of parts.1))) e

pub rate_is : (text front back : List ℕ) (each once : Option ℕ) → halves 47 text ≡ Some (front, back) → number_of front ≡ each → number_of back ≡ once
    → rate_of text ≡ rate_with each once
unfolding rate_of
rate_is text front back each once e f b =
    ap (option_and_then (λ parts. rate_with (number_of parts.0) (number_of parts.1))) e
    ∙ ap (λ (n : Option ℕ). rate_with n (number_of back)) f ∙ ap (rate_with each) b

pub no_once : (each : Option ℕ) → rate_with each None ≡ None
no_once None = refl
no_once (Some each) = refl

-- ---- a pace

pub no_limits : (text : List ℕ) → bytes_eq text (codes "none") ≡ true → pace_of text ≡ Some Unlimited
unfolding pace_of
no_limits text e = cond-true (bytes_eq text (codes "none")) (Some Unlimited) _ e

pub no_pace : (text : List ℕ) → bytes_eq text (codes "none") ≡ false → halves 44 text ≡ None → pace_of text ≡ None
unfolding pace_of
no_pace text e h =
    cond-false (bytes_eq text (codes "none")) (Some Unlimited) _ e
    ∙ ap (option_and_then (λ parts. pace_with (rate_of parts.0) (rate_of parts.1))) h

pub pace_is : (text front back : List ℕ) (messages voice : Option Rate) → bytes_eq text (codes "none") ≡ false → halves 44 text ≡ Some (front, back)
    → rate_of front ≡ messages → rate_of back ≡ voice → pace_of text ≡ pace_with messages voice
unfolding pace_of
pace_is text front back messages voice e h f b =
    cond-false (bytes_eq text (codes "none")) (Some Unlimited) _ e
    ∙ ap (option_and_then (λ parts. pace_with (rate_of parts.0) (rate_of parts.1))) h
    ∙ ap (λ (r : Option Rate). pace_with r (rate_of back)) f ∙ ap (pace_with messages) b

pub no_voice : (messages : Option Rate) → pace_with messages None ≡ None
no_voice None = refl
no_voice (Some messages) = refl
