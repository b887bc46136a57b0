-- What is decoded, field by field: for the loops of decoders.
use Rattle.mum_fields.proofs.Common.{◌≡◌, ℕ, List, [], ◌∷◌, None, Ok, refl, ap, Entry, Walk, ended, first, Rule, value_fault, first_fault, unless, outcome}

-- a field with no fault of its own goes into what is made of the rest
pub outcome-next : {M : Type 0} (rules : ℕ → Rule) (make then : List Entry → M) (w others : Walk Entry) (e : Entry) → w ≡ first e others → value_fault (rules e.number) e ≡ None
    → ((es : List Entry) → make (e ∷ es) ≡ then es) → outcome rules make w ≡ outcome rules then others
outcome-next rules make then w others e is clean made =
    rw (is, clean) (ap (unless (first_fault rules others.items others.fault)) (made others.items))

pub outcome-end : {M : Type 0} (rules : ℕ → Rule) (make : List Entry → M) (w : Walk Entry) → w ≡ ended → outcome rules make w ≡ Ok (make [])
outcome-end rules make w is = rw is refl
