-- The workers of a document of which nothing is said are 1 to 8.
use Rattle.mum_config.proofs.Common.{◌≡◌, ℕ, ◌≤◌, Bool, true, false, ◌||◌, List, [], ◌++◌, Option, None, Some, Result, Ok, Err, IfOk, refl, ap, subst, arith, codes, nat_lt, unwrap_or, option_map, nat_tests, same_Some, Data, array, boolean, float, negative, null, object, string, unsigned, get, Each, Config, DocumentError, NotAnObject, OutOfRange, ReadsText, account_list_rows, against_document, channel_list_rows, channels_met, config_of, document_names, document_rows, link_list_rows, object_fault_of, settings_rows, value_of, against, rows_fault, unknown_fault, number_fault, number_of, wanted, later_none}
use Rattle.serde_json.specs.Data.{number}
use Rattle.mum_config.proofs.{FitDocument.said_of_value, Said.each_row, Said.rows_apart}

-- the workers of a configuration are as many as a server may have
abbrev IsFew : ℕ → Type 0
IsFew workers = (1 ≤ workers) × (workers ≤ 8)

in_range : (n : ℕ) (outside : Bool) → (nat_lt n 1 || nat_lt 8 n) ≡ outside → against OutOfRange outside ≡ None → IsFew n
in_range n true is none = absurd (cc)
in_range n false is none = (grind (arith, nat_tests), grind (arith, nat_tests))

few : (found : Option Data) → wanted (number_fault 1 8) found ≡ None → IsFew (unwrap_or (option_map number_of found) 4)
unfolding wanted
few None none = (omega arith, omega arith)
few (Some (number (unsigned n))) none = in_range n (nat_lt n 1 || nat_lt 8 n) refl none
few (Some (number (negative n))) none = absurd (cc)
few (Some (number (float x))) none = absurd (cc)
few (Some null) none = absurd (cc)
few (Some (boolean flag)) none = absurd (cc)
few (Some (string text)) none = absurd (cc)
few (Some (array items)) none = absurd (cc)
few (Some (object inner)) none = absurd (cc)

document_workers : (document : Data) → object_fault_of document ≡ None → IsFew (config_of document).workers
unfolding object_fault_of config_of
document_workers document none =
    let lines : rows_fault [] (document_rows document) ≡ None =
    later_none (unknown_fault [] document_names document) _ (later_none (against_document NotAnObject _) _ none) in
    let front = rows_apart [] (settings_rows document) (account_list_rows document ++ channel_list_rows document ++ link_list_rows (channels_met document).depths document) lines in
    let of_settings : Each (λ row. row.1 ≡ None) (settings_rows document) = each_row [] (settings_rows document) front.0 in
    few (get (codes "workers") document) of_settings.1.1.0

-- the workers of a text that is read are 1 to 8
pub text_workers : (text : List ℕ) (r : Result Config DocumentError) → ReadsText text r → IfOk r (λ config. (1 ≤ config.workers) × (config.workers ≤ 8))
text_workers text (Err error) reads = tt
text_workers text (Ok config) reads = step (value_of text) refl reads.1
  where
    step : (found : Option Data) → value_of text ≡ found → option_map config_of found ≡ Some config → IsFew config.workers
    step None is read = absurd (cc)
    step (Some value) is read =
        subst (λ (c : Config). IsFew c.workers) (same_Some (config_of value) config read) (document_workers value (said_of_value text value is reads.0))
