-- The settings and the accounts of a document fit without its channels.
use Rattle.mum_config.proofs.Common.{◌≡◌, ℕ, Bool, true, false, cond, List, [], ◌∷◌, ◌++◌, map, Option, None, Some, Result, Ok, Err, IfOk, append_assoc, append-nil, refl, sym, ap, subst, ◌∙◌, flat_map, option_map, and_from, and_parts, filter-append, same_Some, Data, Edit, SetLimits, all_fit, applied, fits, StateValue, empty_state, DocumentError, given_info, given_policy, Config, account_edit, channel_edits, channel_number, gives_info, gives_policy, is_root_entry, made_edit, policy_edits, root_edits, ReadsText, accounts_in, channels_in, config_of, edits_of, links_in, server_edit, settings_of, value_of, FitAfterLimits, is_beside_channels, settings_and_accounts, link_edit}
use Rattle.mum_config.proofs.FitDocument.{same_edits, text_fits_limits}

-- ---- what is left of a document's edits

accounts_stay : (values : List Data) → settings_and_accounts (map account_edit values) ≡ map account_edit values
unfolding account_edit
accounts_stay [] = refl
accounts_stay (value ∷ values) = ap (λ (edits : List Edit). account_edit value ∷ edits) (accounts_stay values)

-- edits that are made where something is given, or none
none_of : (gives : Bool) (edits : List Edit) → settings_and_accounts edits ≡ [] → settings_and_accounts (cond gives edits []) ≡ []
none_of true edits none = none
none_of false edits none = refl

none_of_either : (first : Bool) (edits others : List Edit) → settings_and_accounts edits ≡ [] → settings_and_accounts others ≡ [] → settings_and_accounts (cond first edits others) ≡ []
none_of_either true edits others none also = none
none_of_either false edits others none also = also

none_of_both : (edits others : List Edit) → settings_and_accounts edits ≡ [] → settings_and_accounts others ≡ [] → settings_and_accounts (edits ++ others) ≡ []
none_of_both edits others none also = filter-append is_beside_channels edits others ∙ rw (none, also) refl

no_channel : (value : Data) → settings_and_accounts (channel_edits value) ≡ []
unfolding channel_edits
no_channel value =
    none_of_both (cond (is_root_entry value) (root_edits (given_info value)) (made_edit value ∷ [])) (policy_edits (record { 0 = channel_number value }) (given_policy value))
    (none_of_either (is_root_entry value) (root_edits (given_info value)) (made_edit value ∷ []) (none_of (gives_info (given_info value)) _ refl) refl)
    (none_of (gives_policy (given_policy value)) _ refl)

no_channels : (values : List Data) → settings_and_accounts (flat_map channel_edits values) ≡ []
no_channels [] = refl
no_channels (value ∷ values) = none_of_both (channel_edits value) (flat_map channel_edits values) (no_channel value) (no_channels values)

no_links : (values : List Data) → settings_and_accounts (map link_edit values) ≡ []
unfolding link_edit
no_links [] = refl
no_links (value ∷ values) = no_links values

-- the settings, and the accounts after them
abbrev front : Data → List Edit
front document = server_edit (settings_of document) ∷ map account_edit (accounts_in document)

abbrev rest : Data → List Edit
rest document = flat_map channel_edits (channels_in document) ++ map link_edit (links_in document)

are_front : (document : Data) → edits_of document ≡ front document ++ rest document
unfolding edits_of
are_front document =
    ap (λ (edits : List Edit). server_edit (settings_of document) ∷ edits)
    (append_assoc (map account_edit (accounts_in document)) (flat_map channel_edits (channels_in document)) (map link_edit (links_in document)))

left_is_front : (document : Data) → settings_and_accounts (edits_of document) ≡ front document
left_is_front document =
    ap (λ (edits : List Edit). settings_and_accounts edits) (are_front document)
    ∙ filter-append is_beside_channels (front document) (rest document)
    ∙ ap (λ (edits : List Edit). settings_and_accounts (front document) ++ edits)
    (none_of_both (flat_map channel_edits (channels_in document)) (map link_edit (links_in document)) (no_channels (channels_in document)) (no_links (links_in document)))
    ∙ append-nil (settings_and_accounts (front document))
    ∙ ap (λ (edits : List Edit). server_edit (settings_of document) ∷ edits) (accounts_stay (accounts_in document))

-- ---- a front of edits that fit fits

front_fits : (state : StateValue) (edits more : List Edit) → all_fit state (edits ++ more) ≡ true → all_fit state edits ≡ true
front_fits state [] more fit = refl
front_fits state (edit ∷ edits) more fit =
    let parts = and_parts (fits state edit) (all_fit (applied state edit) (edits ++ more)) fit in
    and_from (fits state edit) (all_fit (applied state edit) edits) parts.0 (front_fits (applied state edit) edits more parts.1)

document_settings_fit : (state : StateValue) (document : Data) → all_fit state (edits_of document) ≡ true → all_fit state (settings_and_accounts (edits_of document)) ≡ true
document_settings_fit state document fit =
    subst (λ (edits : List Edit). all_fit state edits ≡ true) (sym (left_is_front document))
    (front_fits state (front document) (rest document) (subst (λ (edits : List Edit). all_fit state edits ≡ true) (are_front document) fit))

-- of what was read
settings_fit : (text : List ℕ) (config : Config) (state : StateValue) → ReadsText text (Ok config) → all_fit state config.edits ≡ true → all_fit state (settings_and_accounts config.edits) ≡ true
settings_fit text config state reads fit = step (value_of text) reads.1
  where
    step : (found : Option Data) → option_map config_of found ≡ Some config → all_fit state (settings_and_accounts config.edits) ≡ true
    step None read = absurd (cc)
    step (Some value) read =
        let same : edits_of value ≡ config.edits = same_edits value config (same_Some (config_of value) config read) in
        subst (λ (edits : List Edit). all_fit state (settings_and_accounts edits) ≡ true) same
        (document_settings_fit state value (subst (λ (edits : List Edit). all_fit state edits ≡ true) (sym same) fit))

pub settings_fit_limits : (text : List ℕ) (r : Result Config DocumentError) → ReadsText text r → IfOk r (λ config. FitAfterLimits (settings_and_accounts config.edits))
settings_fit_limits text (Err error) reads = tt
settings_fit_limits text (Ok config) reads = λ sessions channels fit.
    settings_fit text config (applied empty_state (SetLimits sessions channels)) reads
    (text_fits_limits text (Ok config) reads sessions channels fit)
