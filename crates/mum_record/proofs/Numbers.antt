-- The number that a word says.
use Rattle.mum_record.proofs.Common.{◌≡◌, ℕ, ◌^◌, ◌<◌, ◌≤◌, List, length, get_or, Option, Some, None, Result, Ok, Err, refl, sym, ap, ◌∙◌, arith, inl, inr, ◌&&◌, lit<, cond_some, cond-true, and_parts, and_from, leb-true, le-leb, cases_eq, bytes_eq-Decides, IsNumeralModel, numerals_by_value, tells_digits, parse_plain, digit_at, digits_decimal, digits_value-decimal, decimal-digits_value, decimal_nonempty, first_decimal, decimal_digit, decimal_injective, AllDigits, digits_value, ParsesUnsigned, decimal, bytes_eq, result_ok, nat_le, ◌-◌, ◌⊎◌, number_within, revision_of, BeginsPlainly}

pub own : IsNumeralModel (AllDigits 10) (digits_value 10)
own = numerals_by_value (AllDigits 10) tells_digits

-- what a word says is in the range, and is written as that word
pub number_within-found : (least greatest : ℕ) (word : List ℕ) (n : ℕ) → number_within least greatest word ≡ Some n → (least ≤ n) × (n ≤ greatest) × (word ≡ decimal n)
unfolding number_within
number_within-found least greatest word n h =
    let v : ℕ = digits_value 10 word in
    let e = cond_some (nat_le least v && nat_le v greatest && bytes_eq word (decimal v)) v n h in
    let parts = and_parts (nat_le least v && nat_le v greatest) (bytes_eq word (decimal v)) e.0 in
    let ends = and_parts (nat_le least v) (nat_le v greatest) parts.0 in
    let same : word ≡ decimal v = (bytes_eq-Decides word (decimal v)).0 parts.1 in
    (rw e.1 at (leb-true least v ends.0), rw e.1 at (leb-true v greatest ends.1), rw e.1 at same)

-- a word that is the digits of a number of the range says it
pub number_within-digits : (least greatest : ℕ) (word : List ℕ) → least ≤ digits_value 10 word → digits_value 10 word ≤ greatest
    → word ≡ decimal (digits_value 10 word) → number_within least greatest word ≡ Some (digits_value 10 word)
unfolding number_within
number_within-digits least greatest word low high same =
    let v : ℕ = digits_value 10 word in
    cond-true (nat_le least v && nat_le v greatest && bytes_eq word (decimal v)) (Some v) None
    (and_from (nat_le least v && nat_le v greatest) (bytes_eq word (decimal v))
    (and_from (nat_le least v) (nat_le v greatest) (le-leb least v low) (le-leb v greatest high)) ((bytes_eq-Decides word (decimal v)).1 same))

-- a number is read back
pub number_within-decimal : (least greatest n : ℕ) → least ≤ n → n ≤ greatest → n < 2 ^ 64 → number_within least greatest (decimal n) ≡ Some n
number_within-decimal least greatest n low high fits =
    let e : digits_value 10 (decimal n) ≡ n = digits_value-decimal own n fits in
    let at_least : least ≤ digits_value 10 (decimal n) = rw e low in
    let at_most : digits_value 10 (decimal n) ≤ greatest = rw e high in
    number_within-digits least greatest (decimal n) at_least at_most (ap decimal (sym e)) ∙ ap Some e

-- there is nothing where there is no value
pub none_unless : {A : Type 0} (o : Option A) → ((x : A) → o ≡ Some x → ⊥) → o ≡ None
none_unless None never = refl
none_unless (Some x) never = absurd (never x refl)

-- a zero comes first only in the digits of 0
one_zero : (n : ℕ) → n < 2 ^ 64 → get_or (decimal n) 0 0 ≡ 48 → length (decimal n) ≡ 1
one_zero n fits zero =
    elim (cases_eq n 0) [
      | inl none ↦ rw (none, decimal_digit 0 (lit< tt)) refl
      | inr some ↦ let first = first_decimal n (omega arith) fits in omega arith
    ]

-- the digits of a number begin plainly
decimal_begins_plainly : (n : ℕ) → n < 2 ^ 64 → BeginsPlainly (decimal n)
decimal_begins_plainly n fits =
    let first = digit_at (decimal n) 0 (digits_decimal own n fits) (decimal_nonempty n fits) in
    (decimal_nonempty n fits, first.0, first.1, one_zero n fits)

pub revision_of-begins_plainly : (word : List ℕ) (n : ℕ) → revision_of word ≡ Some n → BeginsPlainly word
revision_of-begins_plainly word n h =
    let e = number_within-found 0 (2 ^ 64 - 1) word n h in
    rw e.2 (decimal_begins_plainly n (omega (arith, e.1)))

-- a word that begins otherwise says no number
pub revision_of-other : (word : List ℕ) → (BeginsPlainly word → ⊥) → None ≡ revision_of word
revision_of-other word other = sym (none_unless (revision_of word) (λ n h. other (revision_of-begins_plainly word n h)))

-- what begins plainly is parsed as what it says
pub revision_of-parsed : {E : Type 0} (word : List ℕ) (r : Result ℕ E) → ParsesUnsigned 64 10 word r → BeginsPlainly word → result_ok r ≡ revision_of word
revision_of-parsed {E} word (Ok x) h plain =
    let parsed = parse_plain own {E = E} 64 word (Ok x) h (omega arith) in
    let digits = parsed.0 in
    let small = digits.2 in
    let written = decimal-digits_value own word digits.0 digits.1 plain.3 digits.2 in
    ap Some parsed.1 ∙ sym (number_within-digits 0 (2 ^ 64 - 1) word (omega arith) (omega (arith, small)) (sym written))
revision_of-parsed {E} word (Err e) h plain =
    let no : Result ℕ E = Err e in
    let failed = parse_plain own {E = E} 64 word no h (omega arith) in
    sym (none_unless (revision_of word) (λ n is.
    let found = number_within-found 0 (2 ^ 64 - 1) word n is in
    let fits : n < 2 ^ 64 = omega (arith, found.1) in
    let value : digits_value 10 (decimal n) ≡ n = digits_value-decimal own n fits in
    let digits : AllDigits 10 word = rw found.2 (digits_decimal own n fits) in
    let small : digits_value 10 word < 2 ^ 64 = rw (found.2, value) fits in
    failed (digits, plain.0, small)))

-- the same number in a narrower range
pub number_within-narrow : (least greatest : ℕ) (word : List ℕ) (n : ℕ) → revision_of word ≡ Some n → least ≤ n → n ≤ greatest → number_within least greatest word ≡ Some n
number_within-narrow least greatest word n h low high =
    let found = number_within-found 0 (2 ^ 64 - 1) word n h in
    rw found.2 (number_within-decimal least greatest n low high (omega (arith, found.1)))

-- a number outside a range is none of it
pub number_within-outside : (least greatest : ℕ) (word : List ℕ) (n : ℕ) → revision_of word ≡ Some n → greatest < 2 ^ 64 → (n < least) ⊎ (greatest < n) → number_within least greatest word ≡ None
number_within-outside least greatest word n h fits out =
    let found = number_within-found 0 (2 ^ 64 - 1) word n h in
    none_unless (number_within least greatest word) (λ m is.
    let less = number_within-found least greatest word m is in
    let same : m ≡ n = decimal_injective m n (omega (arith, less.1)) (omega (arith, found.1)) (sym less.2 ∙ found.2) in
    elim out [ inl below ↦ omega (arith, less.0) | inr above ↦ omega (arith, less.1) ])

-- nor is what is no number at all
pub number_within-none : (least greatest : ℕ) (word : List ℕ) → greatest < 2 ^ 64 → revision_of word ≡ None → number_within least greatest word ≡ None
number_within-none least greatest word fits h =
    none_unless (number_within least greatest word) (λ m is.
    let less = number_within-found least greatest word m is in
    let more : revision_of word ≡ Some m = rw less.2 (number_within-decimal 0 (2 ^ 64 - 1) m (omega arith) (omega (arith, less.1)) (omega (arith, less.1))) in
    cc)
