-- What was read of a connection, and how it comes in.
use Rattle.mum_link.proofs.Common.{◌≡◌, ℕ, true, List, [], ◌++◌, Option, Some, None, unwrap_or, refl, sym, ap, subst, ◌∙◌, ForSome, option_map, Consumes, Keeps, prepend_known, Consumes-kept, Consumes-trans, IsHeader, ComesIn, HasRead, Origin}

known : (all left : Option (List ℕ)) (bytes : List ℕ) → Consumes all left bytes → ForSome all (λ xs. prepend_known bytes left ≡ Some xs)
known None left bytes took = λ xs e. absurd cc
known (Some all) None bytes took = absurd took
known (Some all) (Some left) bytes took = λ xs e. ap Some (sym took) ∙ e

taken : (all left : Option (List ℕ)) (bytes : List ℕ) → ForSome all (λ xs. prepend_known bytes left ≡ Some xs) → Consumes all left bytes
taken None left bytes is = tt
taken (Some all) None bytes is = absurd (let e = is all refl in cc)
taken (Some all) (Some left) bytes is = ap (λ (o : Option (List ℕ)). unwrap_or o []) (sym (is all refl))

-- nothing more was read
pub has_read_still : (origin next : Origin) (left rest : Option (List ℕ)) (bytes address : List ℕ) → HasRead origin left bytes address → next ≡ origin → Keeps left rest
    → HasRead next rest bytes address
has_read_still origin next left rest bytes address has same keeps =
    subst (λ (o : Origin). HasRead o rest bytes address) (sym same)
    (has.0, known origin.bytes rest bytes (Consumes-kept origin.bytes left rest bytes (taken origin.bytes left bytes has.1) keeps))

-- these bytes more were read
pub has_read_more : (origin next : Origin) (left rest : Option (List ℕ)) (bytes more all address : List ℕ) → HasRead origin left bytes address → next ≡ origin
    → Consumes left rest more → all ≡ bytes ++ more → HasRead next rest all address
has_read_more origin next left rest bytes more all address has same took is =
    subst (λ (o : Origin). HasRead o rest all address) (sym same) (
      has.0,
      known origin.bytes rest all (subst (λ (xs : List ℕ). Consumes origin.bytes rest xs) (sym is)
          (Consumes-trans origin.bytes left rest bytes more (taken origin.bytes left bytes has.1) took)),
    )

-- the address that a header names, or that of the peer
pub named_address : {A B : Type 0} (f : A → B) (named : Option A) (peer : A) → f (unwrap_or named peer) ≡ unwrap_or (option_map f named) (f peer)
named_address f None peer = refl
named_address f (Some one) peer = refl

-- a connection after whose header nothing was read
pub comes_behind : (origin next : Origin) (left rest named : Option (List ℕ)) (header address given : List ℕ) → HasRead origin left header address → IsHeader header named
    → next ≡ origin → Keeps left rest → given ≡ unwrap_or named address → ComesIn true next rest given
comes_behind origin next left rest named header address given has is same keeps e =
    let still = has_read_still origin next left rest header address has same keeps in
    (header, named, is, (refl, still.1), e ∙ ap (λ (peer : List ℕ). unwrap_or named peer) still.0)
