-- The arguments of `sub`, and the number that a few digits write.
use Rattle.mum_policy.proofs.Common.{◌≡◌, ℕ, zero, suc, ◌+◌, ◌-◌, ◌*◌, ◌^◌, ◌<◌, ◌≤◌, ◌&&◌, Bool, true, false, cond, leb, ltb, List, [], ◌∷◌, length, get_or, take, drop, Option, Some, None, refl, sym, ap, ◌∙◌, add-one, inl, inr, arith, position, digit_value, is_ascii_digit, list_all, position_or_len, slice_split, digits_value, pow-succ', and_parts, cases_Bool, false≢true, leb-true, lt-ltb, ltb-false, ltb-true, digits_value_more, length-slice_split, slice_split_first, AllPass-from_list_all, digit_value_digit, Offset, Span, is_comma, is_number, offset_of, separated, span_by, span_of}

-- ---- digits

all_three : (some few digits : Bool) → (some && few && digits) ≡ true → (few ≡ true) × (digits ≡ true)
all_three true true true h = (refl, refl)
all_three true true false h = absurd (false≢true h)
all_three true false true h = absurd (false≢true h)
all_three true false false h = absurd (false≢true h)
all_three false true true h = absurd (false≢true h)
all_three false true false h = absurd (false≢true h)
all_three false false true h = absurd (false≢true h)
all_three false false false h = absurd (false≢true h)

number_parts : (digits : List ℕ) → is_number digits ≡ true → (length digits ≤ 4) × (list_all is_ascii_digit digits ≡ true)
number_parts digits h =
    let parts = all_three (leb 1 (length digits)) (leb (length digits) 4) (list_all is_ascii_digit digits) h in
    (leb-true (length digits) 4 parts.0, parts.1)

pub at_most_four : (digits : List ℕ) → is_number digits ≡ true → length digits ≤ 4
at_most_four digits h = (number_parts digits h).0

-- each is a digit, between `0` and `9`
pub each_digit : (digits : List ℕ) (place : ℕ) → is_number digits ≡ true → place < length digits → (48 ≤ get_or digits place 0) × (get_or digits place 0 ≤ 57)
each_digit digits place h lt =
    let passes = and_parts _ _ (AllPass-from_list_all is_ascii_digit digits (number_parts digits h).1 place 0 lt) in
    (leb-true 48 (get_or digits place 0) passes.0, leb-true (get_or digits place 0) 57 passes.1)

pub digit_is : (digits : List ℕ) (place : ℕ) → is_number digits ≡ true → place < length digits → get_or digits place 0 - 48 ≡ digit_value (get_or digits place 0)
digit_is digits place h lt =
    let e : digit_value (get_or digits place 0) + 48 ≡ get_or digits place 0 = digit_value_digit (get_or digits place 0) (each_digit digits place h lt) in
    omega (arith, e)

-- a number of fewer than four digits
pub few : (place : ℕ) → place < 4 → 10 ^ place ≤ 1000
few zero lt = omega arith
few (suc zero) lt = omega arith
few (suc (suc zero)) lt = omega arith
few (suc (suc (suc zero))) lt = omega arith
few (suc (suc (suc (suc place)))) lt = absurd (omega (arith, lt))

power : (place : ℕ) → 10 ^ (place + 1) ≡ 10 * 10 ^ place
power place = rw (add-one place) (pow-succ' 10 place)

-- what holds before each digit
pub record IsNumberSoFar (digits : List ℕ) (place number : ℕ) : Type 0 where
  pub value : number ≡ digits_value 10 (take place digits)
  pub size : number < 10 ^ place

pub number_next : (digits : List ℕ) (place number digit : ℕ) → is_number digits ≡ true → place < length digits → IsNumberSoFar digits place number
    → digit ≡ digit_value (get_or digits place 0) → digit < 10 → IsNumberSoFar digits (place + 1) (number * 10 + digit)
number_next digits place number digit h lt so is small = record {
  value = ap (λ (n : ℕ). n * 10 + digit) so.value ∙ ap (λ (n : ℕ). digits_value 10 (take place digits) * 10 + n) is ∙ sym (digits_value_more 10 digits place lt);
  size = omega (arith, so.size, small, power place);
}

-- ---- the parts between commas

found_by : (b : Bool) (k i : ℕ) → cond b (Some k) None ≡ Some i → (b ≡ true) × (k ≡ i)
found_by true k i e = (refl, cc)
found_by false k i e = absurd cc

lost_by : (b : Bool) (k : ℕ) → cond b (Some k) None ≡ None → b ≡ false
lost_by true k e = absurd cc
lost_by false k e = refl

whole : (p : ℕ → Bool) (list : List ℕ) → length list ≤ position_or_len p list → slice_split p list ≡ list ∷ []
whole p [] h = refl
whole p (x ∷ list) h = elim (cases_Bool (p x)) [
  | inl passes ↦
      let here : position_or_len p (x ∷ list) ≡ 0 = rw passes refl in
      absurd (omega arith)
  | inr other ↦
      let later : position_or_len p (x ∷ list) ≡ 1 + position_or_len p list = rw other refl in
      let rest : length list ≤ position_or_len p list = omega arith in
      rw (other, whole p list rest) refl
]

-- the first argument ends at the first comma
pub split_there : (p : ℕ → Bool) (list : List ℕ) (place : ℕ) → position p list ≡ Some place → slice_split p list ≡ take place list ∷ slice_split p (drop (place + 1) list)
split_there p list place found =
    let f = found_by (ltb (position_or_len p list) (length list)) (position_or_len p list) place found in
    rw (← f.1) (slice_split_first p list 0 (ltb-true _ _ f.0))

pub split_nowhere : (p : ℕ → Bool) (list : List ℕ) → position p list ≡ None → slice_split p list ≡ list ∷ []
split_nowhere p list none = whole p list (ltb-false _ _ (lost_by (ltb (position_or_len p list) (length list)) (position_or_len p list) none))

-- ---- the three arguments

three_read : (arguments : List (List ℕ)) (from least most : List ℕ) → from ≡ get_or arguments 0 [] → least ≡ get_or (drop 1 arguments) 0 []
    → most ≡ get_or (drop 1 (drop 1 arguments)) 0 [] → length (drop 1 (drop 1 (drop 1 arguments))) ≡ 0
    → span_by (offset_of 0 from) (offset_of 1 least) (offset_of 1000 most) ≡ span_of arguments
unfolding span_of
three_read [] from least most a b c none = rw (a, b, c) refl
three_read (x ∷ []) from least most a b c none = rw (a, b, c) refl
three_read (x ∷ y ∷ []) from least most a b c none = rw (a, b, c) refl
three_read (x ∷ y ∷ z ∷ []) from least most a b c none = rw (a, b, c) refl
three_read (w ∷ x ∷ y ∷ z ∷ more) from least most a b c none = absurd (omega (arith, none))

too_many : (arguments : List (List ℕ)) → 0 < length (drop 1 (drop 1 (drop 1 arguments))) → None ≡ span_of arguments
unfolding span_of
too_many [] more = absurd (omega (arith, more))
too_many (x ∷ []) more = absurd (omega (arith, more))
too_many (x ∷ y ∷ []) more = absurd (omega (arith, more))
too_many (x ∷ y ∷ z ∷ []) more = absurd (omega (arith, more))
too_many (w ∷ x ∷ y ∷ z ∷ more) e = rw (lt-ltb 3 (length (w ∷ x ∷ y ∷ z ∷ more)) (omega arith)) refl

-- what three steps along a list of arguments leave, and what they read
pub record AreSteps (all after_one after_two after_three : List (List ℕ)) : Type 0 where
  pub one : after_one ≡ drop 1 all
  pub two : after_two ≡ drop 1 after_one
  pub three : after_three ≡ drop 1 after_two

left_over : {all after_one after_two after_three : List (List ℕ)} → AreSteps all after_one after_two after_three → after_three ≡ drop 1 (drop 1 (drop 1 all))
left_over s = s.three ∙ ap (λ (l : List (List ℕ)). drop 1 l) (s.two ∙ ap (λ (l : List (List ℕ)). drop 1 l) s.one)

pub too_many_left : {all after_one after_two after_three : List (List ℕ)} → AreSteps all after_one after_two after_three → (list : List ℕ) → after_three ≡ separated list → None ≡ span_of all
too_many_left {all} s list e = too_many all (omega (arith, ap length (left_over s), ap length e, length-slice_split is_comma list))

pub three_at_most : {all after_one after_two after_three : List (List ℕ)} → AreSteps all after_one after_two after_three
    → (from least most : List ℕ) (a b c : Option Offset) (span : Option Span) → from ≡ get_or all 0 [] → least ≡ get_or after_one 0 [] → most ≡ get_or after_two 0 [] → after_three ≡ []
    → a ≡ offset_of 0 from → b ≡ offset_of 1 least → c ≡ offset_of 1000 most → span ≡ span_by a b c → span ≡ span_of all
three_at_most {all} s from least most a b c span is_from is_least is_most none ea eb ec e =
    let first : List (List ℕ) → List ℕ = λ l. get_or l 0 [] in
    e ∙ ap (λ (o : Option Offset). span_by o b c) ea ∙ ap (λ (o : Option Offset). span_by (offset_of 0 from) o c) eb ∙ ap (λ (o : Option Offset). span_by (offset_of 0 from) (offset_of 1 least) o) ec
    ∙ three_read all from least most is_from (is_least ∙ ap first s.one) (is_most ∙ ap first (s.two ∙ ap (λ (l : List (List ℕ)). drop 1 l) s.one)) (ap length (sym (left_over s) ∙ none))
