-- Lists that may be left out, as they are read.
use Rattle.mum_document.proofs.Common.{◌≡◌, List, [], ℕ, Option, None, Some, Result, option_map, sym, ap, ◌∙◌, map, unwrap_or, Bor, Data, view, Value, DocumentError, Fault, or_else, within, Names, Reads}
use Rattle.mum_document.proofs.First.{later, none_said, or_else-end, reads_later, within_none}

-- what is lent, as it is given
pub given_some : (read : Option (Bor (List Value))) (values : Bor (List Value)) (elements : Option (List Data)) → option_map (λ v. map view v.now) read ≡ elements → read ≡ Some values
    → Some (map view values.now) ≡ elements
given_some read values elements same is = sym (ap (option_map (λ (v : Bor (List Value)). map view v.now)) is) ∙ same

pub given_none : (read : Option (Bor (List Value))) (elements : Option (List Data)) → option_map (λ v. map view v.now) read ≡ elements → read ≡ None → None ≡ elements
given_none read elements same is = sym (ap (option_map (λ (v : Bor (List Value)). map view v.now)) is) ∙ same

module _ (a : Option Fault) (way : List ℕ) (inner : List Data → Option Fault) (elements : Option (List Data)) (none : a ≡ None) where
  pub list_read : {X : Type 0} (f : List Data → X) (values : List Data) (r : Result X DocumentError) → Some values ≡ elements → Reads (within way (inner values)) (f values) r
      → Reads (or_else a (or_else (within way (inner (unwrap_or elements []))) None)) (f (unwrap_or elements [])) r
  list_read f values r is reads = rw (sym is, or_else-end) (reads_later a _ _ r none reads)

  pub list_faulty : (values : List Data) (e : DocumentError) → Some values ≡ elements → Names e (within way (inner values)) → Names e (or_else a (or_else (within way (inner (unwrap_or elements []))) None))
  list_faulty values e is names = rw (sym is, or_else-end) (later e a _ none names)

  pub list_good : (values : List Data) → Some values ≡ elements → within way (inner values) ≡ None → or_else a (or_else (within way (inner (unwrap_or elements []))) None) ≡ None
  list_good values is good = rw (sym is, or_else-end) (none_said a _ none good)

  pub list_absent : None ≡ elements → inner [] ≡ None → or_else a (or_else (within way (inner (unwrap_or elements []))) None) ≡ None
  list_absent is good = rw (sym is, or_else-end) (none_said a _ none (within_none way (inner []) good))
