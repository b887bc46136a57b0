-- What a configuration gives is in the state with which a server begins, and nothing else.
use Rattle.mum_config_laws.proofs.Common.{◌≡◌, ℕ, ◌+◌, ◌*◌, ◌≤◌, ◌⊎◌, true, false, List, [], ◌∷◌, ◌++◌, length, map, None, Some, Ok, append_assoc, inl, inr, refl, sym, ap, subst, ◌∙◌, arith, codes, nat_lt, flat_map, option_map, is_utf8, nat_tests, none-some, same_Some, Data, get, read, ROOT, TEXT_LIMIT, Row, root_alone, Account, Edit, SetLimits, all_fit, led_to, applied, fits, PolicyRow, StateValue, empty_state, policy_row, Each, rows_fault, unknown_fault, digest_fault, digest_of, greatest, number_fault, number_of, text_fault, text_of, NotAnObject, later_none, Config, WORKERS_LIMIT, account_edit, no_accounts, channel_edits, root_met, ReadsConfig, account_list_rows, accounts_in, against_document, channel_list_rows, channels_in, channels_met, config_of, document_names, document_rows, edits_of, link_list_rows, links_in, object_fault_of, server_edit, settings_of, settings_rows, value_of, link_edit, IsBare, Leads, empty_bare, less_left, said_of_value, same_edits, text_fits, text_fits_limits, each_row, list_short, rows_apart, IsChannelGiven, IsFirst, IsPolicyGiven, IsSetAsGiven, NothingElseIsThere, OfConfigurations, WhatIsGivenIsThere, SaysAccount, IsDigest, IsNumber, IsText}
use Rattle.mum_config_laws.proofs.{Going.Goes, Going.goes_same, Going.led_by_fit, Going.one_goes, GoingAccounts.AccountsSo, GoingAccounts.accounts_go, GoingChannels.ChannelsSo, GoingChannels.PolicyGiven, GoingChannels.RowGiven, GoingChannels.channels_go, GoingLinks.LinkGiven, GoingLinks.LinksSo, GoingLinks.links_go, Lists.In, Lists.all_in, Lists.contained_in, Lists.each_in, Lists.in_contained, SaidValues.digest_said, SaidValues.in_listed, SaidValues.listed_in, SaidValues.maybe_said, SaidValues.number_said, SaidValues.text_said, SaidValues.wanted_said}

-- ---- before anything is given

-- nobody is there, no account, no link and no channel but the root; and n edits more can be counted
record IsFresh (state : StateValue) : Type 0 where
  bare : IsBare 300001 state
  no_accounts : state.accounts ≡ []
  alone : state.tree.channels ≡ root_alone.channels
  unlinked : state.tree.links ≡ []
  open_root : state.policies ≡ policy_row ROOT ∷ []

empty_fresh : IsFresh empty_state
empty_fresh = record { bare = empty_bare 300001 (omega arith); no_accounts = refl; alone = refl; unlinked = refl; open_root = refl }

limited_fresh : (sessions channels : ℕ) → fits empty_state (SetLimits sessions channels) ≡ true → IsFresh (applied empty_state (SetLimits sessions channels))
limited_fresh sessions channels fit =
    let led : Leads 300001 empty_state (SetLimits sessions channels) = led_by_fit 300001 empty_state (SetLimits sessions channels) refl (empty_bare 300002 (omega arith)) fit in
    record {
      bare = led.bare;
      no_accounts = ap (λ (s : StateValue). s.accounts) led.is;
      alone = ap (λ (s : StateValue). s.tree.channels) led.is;
      unlinked = ap (λ (s : StateValue). s.tree.links) led.is;
      open_root = ap (λ (s : StateValue). s.policies) led.is;
    }

first_fresh : (first : StateValue) → IsFirst first → IsFresh first
first_fresh first is = elim is as (λ _. IsFresh first) [
  | inl empty ↦ subst IsFresh (sym empty) empty_fresh
  | inr limited ↦ subst IsFresh (sym limited.3) (limited_fresh limited.0 limited.1 limited.2)
]

-- ---- all lists

-- what is there of a document's lists in a state
record ListsSo (document : Data) (state : StateValue) : Type 0 where
  accounts : AccountsSo (accounts_in document) [] state.accounts
  channels : ChannelsSo (channels_in document) [] state.tree.channels state.policies
  links : LinksSo (links_in document) [] state.tree.links

-- and what lists do not change
record IsBesideLists (was now : StateValue) : Type 0 where
  server : now.server ≡ was.server
  limit : now.tree.limit ≡ was.tree.limit
  roster : now.roster ≡ was.roster

at_most : (limit n : ℕ) → nat_lt limit n ≡ false → n ≤ limit
at_most limit n few = grind (arith, nat_tests)

root_open : (all : List Data) → ChannelsSo all all root_alone.channels (policy_row ROOT ∷ [])
root_open all = record { there = λ value inside. inl inside; given = (inr refl, tt); ruled = (inr (refl, refl), tt) }

lists_go : (Q : StateValue → Type 0) (document : Data) (state : StateValue) → IsBare 300000 state → state.accounts ≡ [] → state.tree.channels ≡ root_alone.channels → state.tree.links ≡ []
    → state.policies ≡ policy_row ROOT ∷ []
    → rows_fault [] (account_list_rows document) ≡ None → rows_fault [] (channel_list_rows document) ≡ None → rows_fault [] (link_list_rows (channels_met document).depths document) ≡ None
    → ((later : StateValue) → ListsSo document later → IsBesideLists state later → Q later)
    → Goes Q state (map account_edit (accounts_in document) ++ (flat_map channel_edits (channels_in document) ++ map link_edit (links_in document)))
lists_go Q document state bare nobody alone unlinked open_root account_lines channel_lines link_lines on =
    let accounts : List Data = accounts_in document in
    let channels : List Data = channels_in document in
    let links : List Data = links_in document in
    let of_accounts : Each (λ row. row.1 ≡ None) (account_list_rows document) = each_row [] (account_list_rows document) account_lines in
    let of_channels : Each (λ row. row.1 ≡ None) (channel_list_rows document) = each_row [] (channel_list_rows document) channel_lines in
    let of_links : Each (λ row. row.1 ≡ None) (link_list_rows (channels_met document).depths document) = each_row [] (link_list_rows (channels_met document).depths document) link_lines in
    let few_accounts : length accounts ≤ 1024 = at_most 1024 (length accounts) (list_short 1024 (get (codes "accounts") document) refl of_accounts.0) in
    let few_entries : length channels ≤ 65536 = at_most 65536 (length channels) (list_short 65536 (get (codes "channels") document) refl of_channels.0) in
    let few_links : length links ≤ 65536 = at_most 65536 (length links) (list_short 65536 (get (codes "links") document) refl of_links.0) in
    accounts_go Q accounts accounts 0 no_accounts state (2 * length channels + (length links + 0)) (flat_map channel_edits channels ++ map link_edit links)
    (less_left 300000 (length accounts + (2 * length channels + (length links + 0))) state (omega arith) bare)
    (all_in accounts) of_accounts.1.0
    (subst (AccountsSo accounts accounts) (sym nobody) (record { there = λ value inside. inl inside; given = tt }))
    (λ second bare_second accounts_then beside_accounts.
    channels_go Q channels channels 0 root_met second (length links + 0) (map link_edit links) bare_second (all_in channels) of_channels.1.1.0
    (subst (λ (rows : List PolicyRow). ChannelsSo channels channels second.tree.channels rows) (sym (beside_accounts.policies ∙ open_root))
    (subst (λ (rows : List Row). ChannelsSo channels channels rows (policy_row ROOT ∷ [])) (sym (ap (λ t. t.channels) beside_accounts.tree ∙ alone)) (root_open channels)))
    (λ nothing. record { alone = ap (λ t. t.channels) beside_accounts.tree ∙ alone; open_root = beside_accounts.policies ∙ open_root; ahead = λ value inside. inside })
    (λ third bare_third channels_then beside_channels.
    links_go Q links links 0 (channels_met document).depths [] third 0 bare_third (all_in links) of_links.1.0
    (subst (LinksSo links links) (sym (beside_channels.links ∙ ap (λ t. t.links) beside_accounts.tree ∙ unlinked)) (record { there = λ value inside. inl inside; given = tt }))
    (λ later bare_later links_then beside_links.
    on later
    (record {
      accounts = subst (AccountsSo accounts []) (sym (beside_links.accounts ∙ beside_channels.accounts)) accounts_then;
      channels = subst (λ (rows : List PolicyRow). ChannelsSo channels [] later.tree.channels rows) (sym beside_links.policies)
          (subst (λ (rows : List Row). ChannelsSo channels [] rows third.policies) (sym beside_links.channels) channels_then);
      links = links_then;
    })
    (record {
      server = beside_links.server ∙ beside_channels.server ∙ beside_accounts.server;
      limit = beside_links.limit ∙ beside_channels.limit ∙ ap (λ t. t.limit) beside_accounts.tree;
      roster = beside_links.roster ∙ beside_channels.roster ∙ beside_accounts.roster;
    }))))

-- ---- the whole document

record IsOpened (document : Data) (first state : StateValue) : Type 0 where
  settings : IsSetAsGiven document (config_of document) state
  lists : ListsSo document state
  limit : state.tree.limit ≡ first.tree.limit
  roster : state.roster ≡ first.roster

document_goes : (document : Data) (first : StateValue) → object_fault_of document ≡ None → IsFresh first → Goes (IsOpened document first) first (edits_of document)
unfolding object_fault_of edits_of config_of
document_goes document first none fresh =
    let lines : rows_fault [] (document_rows document) ≡ None =
    later_none (unknown_fault [] document_names document) _ (later_none (against_document NotAnObject _) _ none) in
    let one = rows_apart [] (settings_rows document) (account_list_rows document ++ channel_list_rows document ++ link_list_rows (channels_met document).depths document) lines in
    let two = rows_apart [] (account_list_rows document) (channel_list_rows document ++ link_list_rows (channels_met document).depths document) one.1 in
    let three = rows_apart [] (channel_list_rows document) (link_list_rows (channels_met document).depths document) two.1 in
    let of_settings : Each (λ row. row.1 ≡ None) (settings_rows document) = each_row [] (settings_rows document) one.0 in
    let edit : Edit = server_edit (settings_of document) in
    one_goes (IsOpened document first) 300000 first edit (map account_edit (accounts_in document) ++ flat_map channel_edits (channels_in document) ++ map link_edit (links_in document)) refl fresh.bare
    (λ led.
    goes_same (IsOpened document first) (applied first edit) (map account_edit (accounts_in document) ++ flat_map channel_edits (channels_in document) ++ map link_edit (links_in document))
    (map account_edit (accounts_in document) ++ (flat_map channel_edits (channels_in document) ++ map link_edit (links_in document)))
    (append_assoc (map account_edit (accounts_in document)) (flat_map channel_edits (channels_in document)) (map link_edit (links_in document)))
    (lists_go (IsOpened document first) document (applied first edit) led.bare
    (ap (λ (s : StateValue). s.accounts) led.is ∙ fresh.no_accounts)
    (ap (λ (s : StateValue). s.tree.channels) led.is ∙ fresh.alone)
    (ap (λ (s : StateValue). s.tree.links) led.is ∙ fresh.unlinked)
    (ap (λ (s : StateValue). s.policies) led.is ∙ fresh.open_root)
    two.0 three.0 three.1
    (λ later lists beside.
    let server = beside.server ∙ ap (λ (s : StateValue). s.server) led.is in
    record {
      settings = subst (λ s. IsSetAsGiven document (config_of document) (record later { server = s })) (sym server) (record {
        welcome = wanted_said (text_fault TEXT_LIMIT) text_of IsText (text_said TEXT_LIMIT) [] (get (codes "welcome") document) of_settings.0;
        bandwidth = wanted_said (number_fault 1 greatest) number_of IsNumber (number_said 1 greatest) 72000 (get (codes "bandwidth") document) of_settings.1.0;
        workers = wanted_said (number_fault 1 WORKERS_LIMIT) number_of IsNumber (number_said 1 WORKERS_LIMIT) 4 (get (codes "workers") document) of_settings.1.1.0;
        password = maybe_said digest_fault digest_of IsDigest digest_said (get (codes "server_password_sha256") document) of_settings.1.1.1.0;
      });
      lists = lists;
      limit = beside.limit ∙ ap (λ (s : StateValue). s.tree.limit) led.is;
      roster = beside.roster ∙ ap (λ (s : StateValue). s.roster) led.is;
    })))

-- ---- the text

value_read : (text : List ℕ) (document : Data) (config : Config) → read text ≡ Some document → option_map config_of (value_of text) ≡ Some config → value_of text ≡ Some document
value_read text document config is read_as = step (is_utf8 text) refl read_as
  where
    step : (utf8 : _) → is_utf8 text ≡ utf8 → option_map config_of (value_of text) ≡ Some config → value_of text ≡ Some document
    step true utf8 read_as = rw utf8 is
    step false utf8 read_as = absurd (none-some config (sym (ap (λ found. option_map config_of found) (no_value utf8)) ∙ read_as))
      where
        no_value : is_utf8 text ≡ false → value_of text ≡ None
        no_value utf8 = rw utf8 refl

first_fits : (text : List ℕ) (config : Config) (first : StateValue) → ReadsConfig text (Ok config) → IsFirst first → all_fit first config.edits ≡ true
first_fits text config first reads is = elim is as (λ _. all_fit first config.edits ≡ true) [
  | inl empty ↦ subst (λ (s : StateValue). all_fit s config.edits ≡ true) (sym empty) (text_fits text (Ok config) reads)
  | inr limited ↦ subst (λ (s : StateValue). all_fit s config.edits ≡ true) (sym limited.3) (text_fits_limits text (Ok config) reads limited.0 limited.1 limited.2)
]

record Opens (document : Data) (config : Config) (first state : StateValue) : Type 0 where
  settings : IsSetAsGiven document config state
  lists : ListsSo document state
  limit : state.tree.limit ≡ first.tree.limit
  roster : state.roster ≡ first.roster

opens : OfConfigurations Opens
opens text document config first reads is from =
    let value : value_of text ≡ Some document = value_read text document config is reads.1 in
    let same : config_of document ≡ config = same_Some (config_of document) config (sym (ap (λ found. option_map config_of found) value) ∙ reads.1) in
    let edits : edits_of document ≡ config.edits = same_edits document config same in
    let opened : IsOpened document first (led_to first (edits_of document)) =
    document_goes document first (said_of_value text document value reads.0) (first_fresh first from)
    (subst (λ (list : List Edit). all_fit first list ≡ true) (sym edits) (first_fits text config first reads from)) in
    let now : IsOpened document first (led_to first config.edits) = subst (λ (list : List Edit). IsOpened document first (led_to first list)) edits opened in
    record {
      settings = subst (λ (c : Config). IsSetAsGiven document c (led_to first config.edits)) same now.settings;
      lists = now.lists;
      limit = now.limit;
      roster = now.roster;
    }

-- ---- the laws

none_left : {A : Type 0} → ⊥ ⊎ A → A
none_left {A} either = elim either as (λ _. A) [ inl never ↦ absurd never | inr there ↦ there ]

pub what_is_given_is_there_lem : WhatIsGivenIsThere
what_is_given_is_there_lem text document config first reads is from =
    let opened : Opens document config first (led_to first config.edits) = opens text document config first reads is from in
    let state : StateValue = led_to first config.edits in
    record {
      settings = opened.settings;
      accounts = λ value listed.
          let there = none_left (opened.lists.accounts.there value (listed_in (codes "accounts") document value listed)) in
          (there.0, in_contained there.0 state.accounts there.1, there.2);
      channels = λ value listed.
          let there = none_left (opened.lists.channels.there value (listed_in (codes "channels") document value listed)) in
          record {
            row = there.row;
            policy = there.policy;
            there = in_contained there.row state.tree.channels there.there;
            ruled = in_contained there.policy state.policies there.ruled;
            one = there.one;
            channel = there.channel;
            rules = there.rules;
          };
      links = λ value listed.
          let there = none_left (opened.lists.links.there value (listed_in (codes "links") document value listed)) in
          record {
            one = there.one;
            other = there.other;
            says = there.says;
            to = λ apart. in_contained (there.one, there.other) state.tree.links (there.to apart);
            back = λ apart. in_contained (there.other, there.one) state.tree.links (there.back apart);
          };
    }

pub nothing_else_is_there_lem : NothingElseIsThere
nothing_else_is_there_lem text document config first reads is from =
    let opened : Opens document config first (led_to first config.edits) = opens text document config first reads is from in
    let state : StateValue = led_to first config.edits in
    record {
      accounts = λ account inside.
          let given = each_in (λ (account : Account). (value : Data) × In value (accounts_in document) × SaysAccount value account) state.accounts account opened.lists.accounts.given (contained_in account state.accounts inside) in
          (given.0, in_listed (codes "accounts") document given.0 given.1, given.2);
      channels = λ row inside.
          elim (each_in (RowGiven (channels_in document)) state.tree.channels row opened.lists.channels.given (contained_in row state.tree.channels inside)) as (λ _. IsChannelGiven document row) [
            | inl given ↦ inl (given.0, in_listed (codes "channels") document given.0 given.1, given.2)
            | inr root ↦ inr root
          ];
      policies = λ row inside.
          elim (each_in (PolicyGiven (channels_in document)) state.policies row opened.lists.channels.ruled (contained_in row state.policies inside)) as (λ _. IsPolicyGiven document row) [
            | inl given ↦ inl (given.0, in_listed (codes "channels") document given.0 given.1, given.2, given.3)
            | inr root ↦ inr root
          ];
      links = λ pair inside.
          let given = each_in (LinkGiven (links_in document)) state.tree.links pair opened.lists.links.given (contained_in pair state.tree.links inside) in
          (given.0, in_listed (codes "links") document given.0 given.1, given.2);
      roster = opened.roster;
      limit = opened.limit;
    }
