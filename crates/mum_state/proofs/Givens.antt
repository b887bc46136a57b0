-- What a test says of a value that may be given.
use Rattle.mum_state.proofs.Common.{◌≡◌, Bool, true, refl, ap, Option, Some, None, is_none, unwrap_or, list_all, and_parts, false≢true, given_or, holds_of_given, given}

pub none_is : {X : Type 0} (value : Option X) → is_none value ≡ true → value ≡ None
none_is None none = refl
none_is (Some x) none = absurd (false≢true none)

pub is_none_of : {X : Type 0} (value : Option X) → value ≡ None → is_none value ≡ true
is_none_of value none = ap is_none none

-- what is given passes, and so did what was
pub given_good : {X : Type 0} (test : X → Bool) (value : Option X) (was : X) → holds_of_given test value ≡ true → test was ≡ true → test (given_or value was) ≡ true
given_good test None was good before = before
given_good test (Some x) was good before = good

pub given_back : {X : Type 0} (test : X → Bool) (value : Option X) (was : X) → test (given_or value was) ≡ true → holds_of_given test value ≡ true
given_back test None was good = refl
given_back test (Some x) was good = good

pub unwrap_good : {X : Type 0} (test : X → Bool) (value : Option X) (was : X) → holds_of_given test value ≡ true → test was ≡ true → test (unwrap_or value was) ≡ true
unwrap_good test None was good before = before
unwrap_good test (Some x) was good before = good

pub unwrap_back : {X : Type 0} (test : X → Bool) (value : Option X) (was : X) → test (unwrap_or value was) ≡ true → holds_of_given test value ≡ true
unwrap_back test None was good = refl
unwrap_back test (Some x) was good = good

-- the list of what is given
pub holds_of_list : {X : Type 0} (test : X → Bool) (value : Option X) → list_all test (given value) ≡ true → holds_of_given test value ≡ true
holds_of_list test None all = refl
holds_of_list test (Some x) all = (and_parts (test x) true all).0
