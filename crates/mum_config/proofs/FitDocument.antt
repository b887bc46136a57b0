-- The edits of a document of which nothing is said fit from the empty server.
use Rattle.mum_config.proofs.Common.{◌≡◌, ℕ, ◌+◌, ◌*◌, ◌≤◌, true, false, cond, List, [], ◌++◌, length, map, Option, None, Some, Result, Ok, Err, IfOk, is_none, append_assoc, refl, sym, ap, subst, ◌∙◌, arith, IsTrue, codes, nat_lt, flat_map, list_any, option_map, option_map_or, nat_tests, same_Some, Data, get, CHANNEL_LIMIT, TreeState, Edit, SetLimits, all_fit, applied, fits, StateValue, empty_state, fit_parts, limits_fit, Each, Config, DocumentError, Limit, NotAnObject, NotJson, account_edit, channel_edits, is_root_entry, root_met, ReadsText, account_list_rows, accounts_in, against_document, channel_list_rows, channels_in, channels_met, config_of, document_names, document_rows, edits_of, fault_of, link_list_rows, links_in, object_fault_of, server_edit, settings_of, settings_rows, value_of, FitAfterLimits, link_edit, rows_fault, unknown_fault, later_none}
use Rattle.mum_config.proofs.{Bare.IsBare, Bare.Leads, Bare.empty_bare, Bare.leads, Bare.less_left, Bare.one_more, FitAccounts.first_accounts_fit, FitChannels.channels_fit, FitChannels.made_count, FitChannels.made_with_root, FitLinks.AreJoined, FitLinks.links_fit, FitLinks.none_joined, MetChannels.AreMet, MetChannels.root_is_met, Said.each_row, Said.list_short, Said.not_against, Said.rows_apart, Said.text_good}

-- what a table says of the length of a list
at_most : (limit n : ℕ) → nat_lt limit n ≡ false → n ≤ limit
at_most limit n few = grind (arith, nat_tests)

few_channels : (values : List Data) → nat_lt 1024 (length values + cond (list_any is_root_entry values) 0 1) ≡ false → 1 + made_count values ≤ 1024
few_channels values few = let most = at_most 1024 (length values + cond (list_any is_root_entry values) 0 1) few in omega (arith, made_with_root values)

-- 300,000 is above the edits that any document leads to: 1,024 accounts, twice 65,536 channels and 65,536 links
lists_fit : (document : Data) (state : StateValue) → IsBare 300000 state → state.accounts ≡ [] → AreMet root_met state.tree → length state.tree.channels ≡ 1
    → rows_fault [] (account_list_rows document) ≡ None → rows_fault [] (channel_list_rows document) ≡ None → rows_fault [] (link_list_rows (channels_met document).depths document) ≡ None
    → all_fit state (map account_edit (accounts_in document) ++ (flat_map channel_edits (channels_in document) ++ map link_edit (links_in document))) ≡ true
lists_fit document state bare nobody met alone account_lines channel_lines link_lines =
    let accounts : List Data = accounts_in document in
    let channels : List Data = channels_in document in
    let links : List Data = links_in document in
    let of_accounts : Each (λ row. row.1 ≡ None) (account_list_rows document) = each_row [] (account_list_rows document) account_lines in
    let of_channels : Each (λ row. row.1 ≡ None) (channel_list_rows document) = each_row [] (channel_list_rows document) channel_lines in
    let of_links : Each (λ row. row.1 ≡ None) (link_list_rows (channels_met document).depths document) = each_row [] (link_list_rows (channels_met document).depths document) link_lines in
    let few_accounts : length accounts ≤ 1024 = at_most 1024 (length accounts) (list_short 1024 (get (codes "accounts") document) refl of_accounts.0) in
    let few_entries : length channels ≤ 65536 = at_most 65536 (length channels) (list_short 65536 (get (codes "channels") document) refl of_channels.0) in
    let few_links : length links ≤ 65536 = at_most 65536 (length links) (list_short 65536 (get (codes "links") document) refl of_links.0) in
    first_accounts_fit accounts state (2 * length channels + (length links + 0)) (flat_map channel_edits channels ++ map link_edit links)
    (less_left 300000 (length accounts + (2 * length channels + (length links + 0))) state (omega arith) bare)
    nobody few_accounts of_accounts.1.0
    (λ with_accounts still same_tree.
    channels_fit channels 0 root_met with_accounts (length links + 0) (map link_edit links) still
    (subst (AreMet root_met) (sym same_tree) met)
    (omega (arith, ap (λ (t : TreeState). length t.channels) same_tree, few_channels channels (not_against _ _ of_channels.1.0)))
    of_channels.1.1.0
    (λ with_channels bare_then met_then.
    links_fit links 0 (channels_met document).depths [] with_channels 0 bare_then
    (subst (AreJoined []) (sym met_then.unlinked) none_joined)
    met_then.there
    of_links.1.0))

-- nobody is there, no account and no channel but the root, under a limit that is not below that of a new tree; and so
-- many edits more can be counted
record IsFresh (left : ℕ) (state : StateValue) : Type 0 where
  bare : IsBare left state
  no_accounts : state.accounts ≡ []
  met : AreMet root_met state.tree
  alone : length state.tree.channels ≡ 1

empty_fresh : IsFresh 300001 empty_state
empty_fresh = record { bare = empty_bare 300001 (omega arith); no_accounts = refl; met = root_is_met CHANNEL_LIMIT (omega arith); alone = refl }

-- also where limits are set first
limited_fresh : (sessions channels : ℕ) → fits empty_state (SetLimits sessions channels) ≡ true → IsFresh 300001 (applied empty_state (SetLimits sessions channels))
limited_fresh sessions channels fit =
    let parts = fit_parts empty_state (SetLimits sessions channels) fit in
    let led : Leads 300001 empty_state (SetLimits sessions channels) =
    leads 300001 empty_state (SetLimits sessions channels) refl (empty_bare 300002 (omega arith)) refl parts.numbers parts.sets in
    let wide : CHANNEL_LIMIT ≤ channels = (limits_fit empty_state sessions channels fit).channels_rise in
    record {
      bare = led.bare;
      no_accounts = ap (λ (s : StateValue). s.accounts) led.is;
      met = subst (AreMet root_met) (sym (ap (λ (s : StateValue). s.tree) led.is)) (root_is_met channels wide);
      alone = ap (λ (s : StateValue). length s.tree.channels) led.is;
    }

edits_fit : (document : Data) (state : StateValue) → object_fault_of document ≡ None → IsFresh 300001 state → all_fit state (edits_of document) ≡ true
unfolding object_fault_of edits_of
edits_fit document state none fresh =
    let lines : rows_fault [] (document_rows document) ≡ None =
    later_none (unknown_fault [] document_names document) _ (later_none (against_document NotAnObject _) _ none) in
    let one = rows_apart [] (settings_rows document) (account_list_rows document ++ channel_list_rows document ++ link_list_rows (channels_met document).depths document) lines in
    let two = rows_apart [] (account_list_rows document) (channel_list_rows document ++ link_list_rows (channels_met document).depths document) one.1 in
    let three = rows_apart [] (channel_list_rows document) (link_list_rows (channels_met document).depths document) two.1 in
    let of_settings : Each (λ row. row.1 ≡ None) (settings_rows document) = each_row [] (settings_rows document) one.0 in
    let edit : Edit = server_edit (settings_of document) in
    let led : Leads 300000 state edit = leads 300000 state edit refl fresh.bare refl refl (text_good (get (codes "welcome") document) of_settings.0) in
    one_more state edit (map account_edit (accounts_in document) ++ flat_map channel_edits (channels_in document) ++ map link_edit (links_in document)) led.fit
    (ap (all_fit (applied state edit)) (append_assoc (map account_edit (accounts_in document)) (flat_map channel_edits (channels_in document)) (map link_edit (links_in document)))
    ∙ lists_fit document (applied state edit) led.bare
    (ap (λ (s : StateValue). s.accounts) led.is ∙ fresh.no_accounts)
    (subst (AreMet root_met) (sym (ap (λ (s : StateValue). s.tree) led.is)) fresh.met)
    (ap (λ (s : StateValue). length s.tree.channels) led.is ∙ fresh.alone)
    two.0 three.0 three.1)

pub said_of_value : (text : List ℕ) (value : Data) → value_of text ≡ Some value → fault_of text ≡ None → object_fault_of value ≡ None
unfolding fault_of
said_of_value text value is none =
    sym (ap (λ (found : Option Data). option_map_or object_fault_of found None) is)
    ∙ later_none (against_document NotJson (is_none (value_of text))) _ (later_none (against_document Limit (nat_lt 65536 (length text))) _ none)

pub same_edits : (value : Data) (config : Config) → config_of value ≡ config → edits_of value ≡ config.edits
unfolding config_of
same_edits value config same = ap (λ (c : Config). c.edits) same

-- the edits of a text that is read fit a fresh state
read_fits : (state : StateValue) → IsFresh 300001 state → (text : List ℕ) (r : Result Config DocumentError) → ReadsText text r → IfOk r (λ config. IsTrue (all_fit state config.edits))
read_fits state fresh text (Err error) reads = tt
read_fits state fresh text (Ok config) reads = step (value_of text) refl reads.1
  where
    step : (found : Option Data) → value_of text ≡ found → option_map config_of found ≡ Some config → all_fit state config.edits ≡ true
    step None is read = absurd (cc)
    step (Some value) is read =
        subst (λ (edits : List Edit). all_fit state edits ≡ true) (same_edits value config (same_Some (config_of value) config read)) (edits_fit value state (said_of_value text value is reads.0) fresh)

-- the empty one
pub text_fits : (text : List ℕ) (r : Result Config DocumentError) → ReadsText text r → IfOk r (λ config. IsTrue (all_fit empty_state config.edits))
text_fits = read_fits empty_state empty_fresh

-- and the same with limits
pub text_fits_limits : (text : List ℕ) (r : Result Config DocumentError) → ReadsText text r → IfOk r (λ config. FitAfterLimits config.edits)
text_fits_limits text (Err error) reads = tt
text_fits_limits text (Ok config) reads = λ sessions channels fit.
    read_fits (applied empty_state (SetLimits sessions channels)) (limited_fresh sessions channels fit) text (Ok config) reads
