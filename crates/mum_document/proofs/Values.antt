-- Lists of a document as lists of values.
use Rattle.mum_document.proofs.Common.{◌≡◌, ℕ, ◌<◌, ◌≤◌, List, [], ◌∷◌, length, map, Bool, ◌||◌, Option, None, Some, IfSome, option_map, false, true, refl, sym, ap, arith, nat_lt, nat_tests, length-map, Data, Items, array, boolean, float, negative, null, number, object, string, unsigned, as_array, items_of, items_view, view, Value, Limit, OutOfRange, elements_in, elements_of, list_fault, number_fault, number_of, wanted, against}

pub elements_in-items_of : (values : List Data) → elements_in (items_of values) ≡ values
elements_in-items_of [] = refl
elements_in-items_of (value ∷ values) = ap (λ (rest : List Data). value ∷ rest) (elements_in-items_of values)

pub elements_in-items_view : (values : List Value) → elements_in (items_view values) ≡ map view values
elements_in-items_view values = elements_in-items_of (map view values)

pub array_from : (value : Data) (items : Items) → Some items ≡ as_array value → value ≡ array items
array_from null items is = absurd (cc)
array_from (boolean flag) items is = absurd (cc)
array_from (number n) items is = absurd (cc)
array_from (string text) items is = absurd (cc)
array_from (array other) items is = let same : items ≡ other = cc in ap array (sym same)
array_from (object inner) items is = absurd (cc)

pub list_fault-fits : (value : Data) (values : List Value) (limit : ℕ) → Some (items_view values) ≡ as_array value → length values ≤ limit
    → (list_fault limit value ≡ None) × (map view values ≡ elements_of value)
list_fault-fits value values limit is within =
    let few : nat_lt limit (length values) ≡ false = grind (arith, nat_tests) in
    rw (array_from value (items_view values) is, elements_in-items_view values, length-map values view, few) (refl, refl)

pub list_fault-over : (value : Data) (values : List Value) (limit : ℕ) → Some (items_view values) ≡ as_array value → limit < length values
    → list_fault limit value ≡ Some (record { cause = Limit; key = [] })
list_fault-over value values limit is over =
    let many : nat_lt limit (length values) ≡ true = grind (arith, nat_tests) in
    rw (array_from value (items_view values) is, elements_in-items_view values, length-map values view, many) refl

-- a number against which nothing is said is within its range
within_range : (low high : ℕ) (value : Data) → number_fault low high value ≡ None → number_of value ≤ high
within_range low high (number (unsigned n)) none = step (nat_lt n low || nat_lt high n) refl none
  where
    step : (outside : Bool) → (nat_lt n low || nat_lt high n) ≡ outside → against OutOfRange outside ≡ None → n ≤ high
    step true is none-2 = absurd (cc)
    step false is none-2 = grind (arith, nat_tests)
within_range low high (number (negative n)) none = absurd (cc)
within_range low high (number (float x)) none = absurd (cc)
within_range low high null none = absurd (cc)
within_range low high (boolean flag) none = absurd (cc)
within_range low high (string text) none = absurd (cc)
within_range low high (array items) none = absurd (cc)
within_range low high (object inner) none = absurd (cc)

pub number_within : (low high : ℕ) (found : Option Data) → wanted (number_fault low high) found ≡ None → IfSome (option_map number_of found) (λ n. n ≤ high)
unfolding wanted
number_within low high None none = tt
number_within low high (Some value) none = within_range low high value none
