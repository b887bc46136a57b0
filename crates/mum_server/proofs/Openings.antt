-- The state at which the steps of a recording begin is proper.
use Rattle.mum_server.proofs.Common.{◌≡◌, ℕ, List, [], ◌∷◌, Option, Some, None, true, leb, refl, ap, arith, option_map, option_map_or, Data, empty_bare, text_fits, text_fits_limits, FitAfterLimits, fault_of, value_of, IfSome, Ok, and_from, le-leb, PLACES, SLOTS, AreLimits, applied, fits, SetLimits, fit_from, keeps_proper_lem, all_fit, IsProper, empty_state, Edit, document_edits, document_fault, opening, opening_edits}
use Rattle.mum_config.specs.Document.{config_of}
use Rattle.mum_config.specs.declared.config.Config.{Config}

-- the limits that a recording may name are set in the empty server
limited_fits : (limits : ℕ × ℕ) → AreLimits limits → fits empty_state (SetLimits limits.0 limits.1) ≡ true
limited_fits limits are = fit_from empty_state (SetLimits limits.0 limits.1) (record {
  named = refl;
  numbers = and_from (leb 128 limits.0) (leb 1024 limits.1) (le-leb 128 limits.0 are.0) (le-leb 1024 limits.1 are.2);
  sets = and_from (leb limits.0 SLOTS) (leb limits.1 PLACES) (le-leb limits.0 SLOTS are.1) (le-leb limits.1 PLACES are.3);
  countable = refl;
})

abbrev pub edits_in : Option Data → List Edit
edits_in found = option_map_or (λ (config : Config). config.edits) (option_map config_of found) []

value_fits : (text : List ℕ) (found : Option Data) → value_of text ≡ found → fault_of text ≡ None → all_fit empty_state (edits_in found) ≡ true
value_fits text None is none = refl
value_fits text (Some value) is none = text_fits text (Ok (config_of value)) (none, ap (option_map config_of) is)

document_fits : (document : List ℕ) → document_fault document ≡ None → all_fit empty_state (document_edits document) ≡ true
document_fits [] none = refl
document_fits (byte ∷ bytes) none = value_fits (byte ∷ bytes) (value_of (byte ∷ bytes)) refl none

-- they fit as well where limits are set first
value_fits_limits : (text : List ℕ) (found : Option Data) → value_of text ≡ found → fault_of text ≡ None → FitAfterLimits (edits_in found)
value_fits_limits text None is none = λ sessions channels fit. refl
value_fits_limits text (Some value) is none = text_fits_limits text (Ok (config_of value)) (none, ap (option_map config_of) is)

document_fits_limits : (document : List ℕ) → document_fault document ≡ None → FitAfterLimits (document_edits document)
document_fits_limits [] none = λ sessions channels fit. refl
document_fits_limits (byte ∷ bytes) none = value_fits_limits (byte ∷ bytes) (value_of (byte ∷ bytes)) refl none

opening_fits : (limits : Option (ℕ × ℕ)) (document : List ℕ) → IfSome limits AreLimits → document_fault document ≡ None → all_fit empty_state (opening_edits limits document) ≡ true
opening_fits None document are none = document_fits document none
opening_fits (Some limits) document are none =
    let fit : fits empty_state (SetLimits limits.0 limits.1) ≡ true = limited_fits limits are in
    and_from (fits empty_state (SetLimits limits.0 limits.1)) (all_fit (applied empty_state (SetLimits limits.0 limits.1)) (document_edits document)) fit
    (document_fits_limits document none limits.0 limits.1 fit)

pub opens_properly : (limits : Option (ℕ × ℕ)) (document : List ℕ) → IfSome limits AreLimits → document_fault document ≡ None → IsProper (opening limits document)
opens_properly limits document are none =
    keeps_proper_lem empty_state (opening_edits limits document) (empty_bare 0 (omega arith)).proper (opening_fits limits document are none)
