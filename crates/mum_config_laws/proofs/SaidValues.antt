-- A value of which nothing is said against says what it is read as.
use Rattle.mum_config_laws.proofs.Common.{◌≡◌, ℕ, Bool, true, false, not, List, [], map, Option, None, Some, Result, Ok, Err, inl, inr, refl, sym, ap, subst, is_ok, unwrap_or, option_map, result_unwrap_or, decode_sized, Data, Items, array, boolean, item, negative, no_items, number, string, unsigned, get, Each, Fault, elements_at, digest_fault, digest_of, elements_in, elements_of, flag_fault, flag_of, list_fault, name_fault, needed, number_fault, number_of, signed_fault, signed_of, text_fault, text_of, wanted, not_against, EachSays, HasItem, IsDigest, IsFlag, IsListOf, IsListed, IsNumber, IsSigned, IsText, Says, SaysMaybe, SaysOr}
use Rattle.mum_config_laws.proofs.Lists.{In}

-- ---- single values

pub text_said : (limit : ℕ) (value : Data) → text_fault limit value ≡ None → IsText value (text_of value)
text_said limit (string text) none = refl
text_said limit value none = absurd (cc)

pub name_said : (value : Data) → name_fault value ≡ None → IsText value (text_of value)
name_said (string text) none = refl
name_said value none = absurd (cc)

pub flag_said : (value : Data) → flag_fault value ≡ None → IsFlag value (flag_of value)
flag_said (boolean flag) none = refl
flag_said value none = absurd (cc)

pub number_said : (low high : ℕ) (value : Data) → number_fault low high value ≡ None → IsNumber value (number_of value)
number_said low high (number (unsigned n)) none = refl
number_said low high value none = absurd (cc)

pub signed_said : (value : Data) → signed_fault value ≡ None → IsSigned value (signed_of value)
signed_said (number (unsigned n)) none = inl (n, refl, refl)
signed_said (number (negative z)) none = inr refl
signed_said value none = absurd (cc)

not_false : (b : Bool) → not b ≡ false → b ≡ true
not_false true is = refl
not_false false is = absurd (cc)

decoded : {E : Type 0} (r : Result (List ℕ) E) → is_ok r ≡ true → r ≡ Ok (result_unwrap_or r [])
decoded (Ok bytes) is = refl
decoded (Err e) is = absurd (cc)

pub digest_said : (value : Data) → digest_fault value ≡ None → IsDigest value (digest_of value)
digest_said (string digits) none = (digits, refl, decoded (decode_sized digits 32) (not_false _ (not_against _ _ none)))
digest_said value none = absurd (cc)

-- ---- keys

module _ {X : Type 0} (fault : Data → Option Fault) (of : Data → X) (IsSaid : Data → X → Type 0) (so : (value : Data) → fault value ≡ None → IsSaid value (of value)) where
  pub needed_said : (default : X) (found : Option Data) → needed fault found ≡ None → Says IsSaid found (unwrap_or (option_map of found) default)
  unfolding needed
  needed_said default None none = absurd (cc)
  needed_said default (Some value) none = so value none

  pub wanted_said : (default : X) (found : Option Data) → wanted fault found ≡ None → SaysOr IsSaid default found (unwrap_or (option_map of found) default)
  unfolding wanted
  wanted_said default None none = refl
  wanted_said default (Some value) none = so value none

  pub maybe_said : (found : Option Data) → wanted fault found ≡ None → SaysMaybe IsSaid found (option_map of found)
  unfolding wanted
  maybe_said None none = refl
  maybe_said (Some value) none = so value none

-- ---- lists

each_says : {X : Type 0} (of : Data → X) (IsSaid : Data → X → Type 0) (items : Items) → Each (λ value. IsSaid value (of value)) (elements_in items)
    → EachSays IsSaid items (map of (elements_in items))
each_says of IsSaid no_items all = tt
each_says of IsSaid (item value items) all = (all.0, each_says of IsSaid items all.1)

list_said : {X : Type 0} (of : Data → X) (IsSaid : Data → X → Type 0) (limit : ℕ) (value : Data) → list_fault limit value ≡ None
    → Each (λ value. IsSaid value (of value)) (elements_of value) → IsListOf IsSaid value (map of (elements_of value))
list_said of IsSaid limit (array items) none all = (items, refl, each_says of IsSaid items all)
list_said of IsSaid limit value none all = absurd (cc)

pub list_or : {X : Type 0} (of : Data → X) (IsSaid : Data → X → Type 0) (limit : ℕ) (found : Option Data) → wanted (list_fault limit) found ≡ None
    → Each (λ value. IsSaid value (of value)) (unwrap_or (option_map elements_of found) [])
    → SaysOr (IsListOf IsSaid) [] found (map of (unwrap_or (option_map elements_of found) []))
unfolding wanted
list_or of IsSaid limit None none all = refl
list_or of IsSaid limit (Some value) none all = list_said of IsSaid limit value none all

-- a value is an element exactly where it is listed
item_in : (items : Items) (value : Data) → HasItem items value → In value (elements_in items)
item_in no_items value has = has
item_in (item first items) value has = elim has as (λ _. In value (elements_in (item first items))) [ inl is ↦ inl is | inr later ↦ inr (item_in items value later) ]

in_item : (items : Items) (value : Data) → In value (elements_in items) → HasItem items value
in_item no_items value has = has
in_item (item first items) value has = elim has as (λ _. HasItem (item first items) value) [ inl is ↦ inl is | inr later ↦ inr (in_item items value later) ]

pub listed_in : (key : List ℕ) (document value : Data) → IsListed key document value → In value (elements_at key document)
listed_in key document value listed =
    let same : elements_at key document ≡ elements_in listed.0 = ap (λ (found : Option Data). unwrap_or (option_map elements_of found) []) listed.1 in
    subst (In value) (sym same) (item_in listed.0 value listed.2)

pub in_listed : (key : List ℕ) (document value : Data) → In value (elements_at key document) → IsListed key document value
in_listed key document value inside = step (get key document) refl inside
  where
    of_found : (one : Data) → get key document ≡ Some one → In value (elements_of one) → IsListed key document value
    of_found (array items) is inside = (items, is, in_item items value inside)
    of_found one is inside = absurd inside

    step : (found : Option Data) → get key document ≡ found → In value (unwrap_or (option_map elements_of found) []) → IsListed key document value
    step None is inside = absurd inside
    step (Some one) is inside = of_found one is inside
