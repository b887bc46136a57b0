-- Objects: their kind, and their unknown keys.
use Rattle.mum_document.proofs.Common.{◌≡◌, ℕ, Bool, true, false, not, List, [], ◌∷◌, ◌++◌, map, Option, None, Some, is_some, option_map, refl, sym, ap, is_none, Bor, list_any, bytes_eq, append-nil, Data, Members, member, as_object, DocumentError, UnknownKey, WrongKind, against, within, unknown_fault, unknown_key, Names}

pub kind_said : (found : Option Members) → is_some found ≡ false → against WrongKind (is_none found) ≡ Some (record { cause = WrongKind; key = [] })
kind_said None missing = refl
kind_said (Some inner) missing = absurd (cc)

pub kind_none : (found : Option Members) → is_some found ≡ true → against WrongKind (is_none found) ≡ None
kind_none None there = absurd (cc)
kind_none (Some inner) there = refl

pub list_any-now : (test : List ℕ → Bool) (names : List (Bor (List ℕ))) → list_any test (map (λ n. n.now) names) ≡ list_any (λ name. test name.now) names
list_any-now test [] = refl
list_any-now test (name ∷ names) = rw (list_any-now test names) refl

-- a key that is known is passed, and one that is not is the least
pub unknown_key-known : (names : List (List ℕ)) (key : List ℕ) (value : Data) (rest : Members) → list_any (λ name. bytes_eq name key) names ≡ true
    → unknown_key names (member key value rest) ≡ unknown_key names rest
unknown_key-known names key value rest known = rw known refl

pub unknown_key-here : (names : List (List ℕ)) (key : List ℕ) (value : Data) (rest : Members) → list_any (λ name. bytes_eq name key) names ≡ false
    → unknown_key names (member key value rest) ≡ Some key
unknown_key-here names key value rest other = rw other refl

pub unknown_said : (dot key : List ℕ) (names : List (List ℕ)) (value : Data) (inner : Members) (e : DocumentError) → Some inner ≡ as_object value → unknown_key names inner ≡ Some key
    → Names e (within (dot ++ key) (Some (record { cause = UnknownKey; key = [] }))) → Names e (unknown_fault dot names value)
unfolding within
unknown_said dot key names value inner e is unknown said =
    rw (sym is, unknown) (rw append-nil at said)

pub list_any-of_map : {X Y : Type 0} (test : Y → Bool) (f : X → Y) (xs : List X) → list_any test (map f xs) ≡ list_any (λ x. test (f x)) xs
list_any-of_map test f [] = refl
list_any-of_map test f (x ∷ xs) = rw (list_any-of_map test f xs) refl

pub is_none-from : {X : Type 0} (found : Option X) (none : Bool) → is_some found ≡ not none → none ≡ is_none found
is_none-from None true is = refl
is_none-from None false is = absurd (cc)
is_none-from (Some x) true is = absurd (cc)
is_none-from (Some x) false is = refl

-- what is lent is there where what it stands for is
pub is_found : {X Y : Type 0} (f : X → Y) (found : Option X) (there : Option Y) → option_map f found ≡ there → is_some found ≡ is_some there
is_found f None there same = ap is_some same
is_found f (Some x) there same = ap is_some same
