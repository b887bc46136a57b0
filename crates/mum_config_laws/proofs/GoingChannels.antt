-- The channels of a configuration are there with their policies, and no others but the root.
use Rattle.mum_config_laws.proofs.Common.{◌≡◌, ℕ, suc, ◌+◌, ◌*◌, ◌<◌, ◌≤◌, ◌⊎◌, ◌==◌, ◌&&◌, ◌||◌, Bool, true, false, cond, eqb, not, List, [], ◌∷◌, ◌++◌, length, map, get_or, Option, None, Some, append_assoc, inl, inr, refl, sym, ap, subst, ◌∙◌, arith, codes, is_some, nat_eq, nat_lt, pos, unwrap_or, flat_map, option_and_then, option_map, option_map_or, and_parts, eq-eqb, eqb-true, ne_eqb, nat_tests, map-append, Data, negative, float, number, unsigned, as_number, as_u64, get, insert_entry, ChannelId, ROOT, AclEntry, GroupRow, ChannelPolicy, Channel, ChannelInfo, Row, given_or, with_given, least_place, number_of_row, TreeState, changed, new_row, plain_info, root_alone, with_info, with_new, changed_none, Edit, EditChannel, MakeChannel, SetAcl, applied, fits, gives_right_numbers, is_countable, sets_properly, names_there, channel_parts, set_policy, with_policy, PolicyRow, StateValue, open_policy, policy_row, Each, each_append, each_from_all, each_map, each_so, map_stays, GivenInfo, GivenPolicy, given_info, given_policy, info_rows, policy_rows, elements_fault, opening_fault, rows_fault, greatest, name_fault, needed, number_fault, number_of, text_of, first_none, later_none, none_within, ChannelsMet, channel_edits, channel_fault, channel_name, channel_number, depth_above, gives_info, gives_policy, info_of, is_root_entry, made_edit, made_fault, name_rows, number_rows, parent_number, parent_rows, policy_edits, policy_of, rises, root_edits, root_fault, shared_names, with_channel_met, IsBare, less_left, each_row, not_against, rows_apart, IsOf, SaysChannel, SaysPolicy, IsNumber, IsText, Says}
use Rattle.mum_config_laws.proofs.{Going.Goes, Going.goes_same, Going.one_goes, Lists.In, Lists.in_back, Lists.in_front, SaidEntries.info_said, SaidEntries.policy_said, SaidValues.name_said, SaidValues.needed_said, SaidValues.number_said}

abbrev channel : ℕ → ChannelId
channel n = record { 0 = n }

-- ---- what is kept of the whole list

pub record ChannelThere (channels : List Row) (policies : List PolicyRow) (value : Data) : Type 0 where
  pub row : Row
  pub policy : PolicyRow
  pub there : In row channels
  pub ruled : In policy policies
  pub one : policy.channel ≡ row.channel.id
  pub channel : SaysChannel value row.channel
  pub rules : SaysPolicy value policy.policy

abbrev pub RowGiven : List Data → Row → Type 0
RowGiven all row = ((value : Data) × In value all × SaysChannel value row.channel) ⊎ (row ∷ [] ≡ root_alone.channels)

abbrev pub PolicyGiven : List Data → PolicyRow → Type 0
PolicyGiven all row =
    ((value : Data) × In value all × IsOf value row.channel × SaysPolicy value row.policy) ⊎ ((row.channel.0 ≡ 0) × (row.policy ≡ open_policy))

-- of all entries each is still to come or its channel is there, and each channel and each policy has its entry
pub record ChannelsSo (all left : List Data) (channels : List Row) (policies : List PolicyRow) : Type 0 where
  pub there : (value : Data) → In value all → In value left ⊎ ChannelThere channels policies value
  pub given : Each (RowGiven all) channels
  pub ruled : Each (PolicyGiven all) policies

-- before the first entry there is the root alone, and all are to come
pub record IsUntouched (all left : List Data) (channels : List Row) (policies : List PolicyRow) : Type 0 where
  pub alone : channels ≡ root_alone.channels
  pub open_root : policies ≡ policy_row ROOT ∷ []
  pub ahead : (value : Data) → In value all → In value left

-- what channels do not change
pub record IsBesideChannels (was now : StateValue) : Type 0 where
  pub server : now.server ≡ was.server
  pub accounts : now.accounts ≡ was.accounts
  pub links : now.tree.links ≡ was.tree.links
  pub limit : now.tree.limit ≡ was.tree.limit
  pub roster : now.roster ≡ was.roster

-- ---- one entry more

module _ (all left : List Data) (value : Data) (row : Row) (policy : PolicyRow) (inside : In value all) (one : policy.channel ≡ row.channel.id)
    (says : SaysChannel value row.channel) (rules : SaysPolicy value policy.policy) where
  row_given : RowGiven all row
  row_given = inl (value, inside, says)

  policy_given : PolicyGiven all policy
  policy_given = inl (value, inside, subst (λ (id : ChannelId). IsOf value id) (sym one) says.id, rules)

  new_there : (channels : List Row) (policies : List PolicyRow) → In row channels → In policy policies → ChannelThere channels policies value
  new_there channels policies there ruled = record { row = row; policy = policy; there = there; ruled = ruled; one = one; channel = says; rules = rules }

  -- after the others
  made_so : (channels : List Row) (policies : List PolicyRow) → ChannelsSo all (value ∷ left) channels policies → ChannelsSo all left (channels ++ row ∷ []) (policies ++ policy ∷ [])
  made_so channels policies so =
      let new : ChannelThere (channels ++ row ∷ []) (policies ++ policy ∷ []) value =
      new_there (channels ++ row ∷ []) (policies ++ policy ∷ []) (in_back row channels (row ∷ []) (inl refl)) (in_back policy policies (policy ∷ []) (inl refl)) in
      record {
        there = λ v listed. elim (so.there v listed) as (λ _. In v left ⊎ ChannelThere (channels ++ row ∷ []) (policies ++ policy ∷ []) v) [
          | inl first ↦ (elim first as (λ _. In v left ⊎ ChannelThere (channels ++ row ∷ []) (policies ++ policy ∷ []) v) [
            | inl is ↦ inr (subst (ChannelThere (channels ++ row ∷ []) (policies ++ policy ∷ [])) is new)
            | inr later ↦ inl later
          ])
          | inr old ↦ inr (record {
            row = old.row;
            policy = old.policy;
            there = in_front old.row channels (row ∷ []) old.there;
            ruled = in_front old.policy policies (policy ∷ []) old.ruled;
            one = old.one;
            channel = old.channel;
            rules = old.rules;
          })
        ];
        given = each_append (RowGiven all) channels (row ∷ []) so.given (row_given, tt);
        ruled = each_append (PolicyGiven all) policies (policy ∷ []) so.ruled (policy_given, tt);
      }

  -- in place of the root
  root_so : (channels : List Row) (policies : List PolicyRow) → IsUntouched all (value ∷ left) channels policies → ChannelsSo all left (row ∷ []) (policy ∷ [])
  root_so channels policies untouched =
      let new : ChannelThere (row ∷ []) (policy ∷ []) value = new_there (row ∷ []) (policy ∷ []) (inl refl) (inl refl) in
      record {
        there = λ v listed. elim (untouched.ahead v listed) as (λ _. In v left ⊎ ChannelThere (row ∷ []) (policy ∷ []) v) [
          | inl is ↦ inr (subst (ChannelThere (row ∷ []) (policy ∷ [])) is new)
          | inr later ↦ inl later
        ];
        given = (row_given, tt);
        ruled = (policy_given, tt);
      }

-- ---- a policy is set

open_given : (inherit : Option Bool) (groups : Option (List GroupRow)) (acls : Option (List AclEntry)) → (is_some inherit || is_some groups || is_some acls) ≡ false
    → open_policy ≡ record { inherit_acls = unwrap_or inherit true; groups = unwrap_or groups []; acls = unwrap_or acls [] }
open_given None None None none = refl
open_given (Some a) groups acls none = absurd (cc)
open_given None (Some b) acls none = absurd (cc)
open_given None None (Some c) none = absurd (cc)

set_last : (front : List PolicyRow) (id : ChannelId) (policy : ChannelPolicy) → Each (λ row. (row.channel.0 == id.0) ≡ false) front
    → with_policy id policy (front ++ policy_row id ∷ []) ≡ front ++ record { channel = id; policy = policy } ∷ []
set_last front id policy apart =
    map-append (set_policy id policy) front (policy_row id ∷ [])
    ∙ ap (λ (rows : List PolicyRow). rows ++ set_policy id policy (policy_row id) ∷ [])
    (map_stays (set_policy id policy) front (each_so (λ row. (row.channel.0 == id.0) ≡ false) (λ row. set_policy id policy row ≡ row) (λ row other. ap (λ (b : Bool). cond b (record row { policy = policy }) row) other) front apart))
    ∙ ap (λ (b : Bool). front ++ cond b (record { channel = id; policy = policy }) (policy_row id) ∷ []) (eq-eqb id.0 id.0 refl)

pub record IsBesidePolicies (was now : StateValue) : Type 0 where
  pub server : now.server ≡ was.server
  pub accounts : now.accounts ≡ was.accounts
  pub tree : now.tree ≡ was.tree
  pub roster : now.roster ≡ was.roster

policy_goes : (Q : StateValue → Type 0) (given : GivenPolicy) (id : ChannelId) (front : List PolicyRow) (state : StateValue) (left : ℕ) (rest : List Edit)
    → IsBare (suc left) state → state.policies ≡ front ++ policy_row id ∷ [] → Each (λ row. (row.channel.0 == id.0) ≡ false) front
    → ((later : StateValue) → IsBare left later → later.policies ≡ front ++ record { channel = id; policy = policy_of given } ∷ [] → IsBesidePolicies state later → Goes Q later rest)
    → Goes Q state (policy_edits id given ++ rest)
policy_goes Q given id front state left rest bare are apart on = step (gives_policy given) refl
  where
    step : (b : Bool) → gives_policy given ≡ b → Goes Q state (cond b (SetAcl id None (policy_of given) ∷ []) [] ++ rest)
    step true gives =
        one_goes Q left state (SetAcl id None (policy_of given)) rest refl bare (λ led.
        on (applied state (SetAcl id None (policy_of given))) led.bare
        (ap (λ (s : StateValue). s.policies) led.is ∙ ap (with_policy id (policy_of given)) are ∙ set_last front id (policy_of given) apart)
        (record {
          server = ap (λ (s : StateValue). s.server) led.is;
          accounts = ap (λ (s : StateValue). s.accounts) led.is;
          tree = ap (λ (s : StateValue). s.tree) led.is;
          roster = ap (λ (s : StateValue). s.roster) led.is;
        }))
    step false none =
        on state (less_left (suc left) left state (omega arith) bare)
        (are ∙ ap (λ (policy : ChannelPolicy). front ++ record { channel = id; policy = policy } ∷ []) (open_given given.inherit_acls given.groups given.acls none))
        (record { server = refl; accounts = refl; tree = refl; roster = refl })

-- ---- a channel is made

-- a change of the last row, whose number no other has
changed_last : (rows : List Row) (last : Row) (id : ChannelId) (change : Channel → Channel) → ((k : ℕ) (d : Row) → k < length rows → number_of_row (get_or rows k d) ≡ id.0 → ⊥) → eqb (number_of_row last) id.0 ≡ true
    → changed id change (rows ++ last ∷ []) ≡ rows ++ record last { channel = change last.channel } ∷ []
changed_last rows last id change others is =
    map-append _ rows (last ∷ [])
    ∙ ap (λ (front : List Row). front ++ changed id change (last ∷ [])) (changed_none rows id change others)
    ∙ ap (λ (b : Bool). rows ++ cond b (record last { channel = change last.channel }) last ∷ []) is

-- no policy is of a number above all that channels had
below_apart : (state : StateValue) (left n : ℕ) → IsBare left state → state.tree.greatest < n → Each (λ row. (row.channel.0 == n) ≡ false) state.policies
below_apart state left n bare above = go state.policies (each_so _ _ (λ (id : ChannelId) (known : id.0 ≤ state.tree.greatest). known) (map (λ row. row.channel) state.policies)
    (subst (Each (λ (id : ChannelId). id.0 ≤ state.tree.greatest)) (sym bare.proper.policies)
    (each_map (λ row. number_of_row row ≤ state.tree.greatest) (λ (id : ChannelId). id.0 ≤ state.tree.greatest) (λ row. row.channel.id) (λ row known. known) state.tree.channels
    (each_from_all (λ row. number_of_row row ≤ state.tree.greatest) state.tree.channels bare.proper.tree.known))))
  where
    go : (rows : List PolicyRow) → Each (λ (id : ChannelId). id.0 ≤ state.tree.greatest) (map (λ row. row.channel) rows) → Each (λ row. (row.channel.0 == n) ≡ false) rows
    go [] all = tt
    go (row ∷ rows) all = (ne_eqb row.channel.0 n (λ (e : row.channel.0 ≡ n). absurd (omega (arith, all.0))), go rows all.1)

above_by_fit : (state : StateValue) (id parent : ChannelId) (name : List ℕ) (info : ChannelInfo) → fits state (MakeChannel id parent name false info None) ≡ true → state.tree.greatest < id.0
above_by_fit state id parent name info fit =
    let edit : Edit = MakeChannel id parent name false info None in
    let three = and_parts (names_there state edit && gives_right_numbers state edit && sets_properly state edit) (is_countable state edit) fit in
    let two = and_parts (names_there state edit && gives_right_numbers state edit) (sets_properly state edit) three.0 in
    let one = and_parts (names_there state edit) (gives_right_numbers state edit) two.0 in
    below state.tree.greatest id.0 one.1
  where
    below : (a b : ℕ) → nat_lt a b ≡ true → a < b
    below a b is = grind (arith, nat_tests)

-- the row that an entry makes
abbrev made_row : StateValue → Data → Row
made_row state value = record {
  place = least_place state.tree.channels;
  channel = record { id = channel (channel_number value); parent = channel (parent_number value); name = channel_name value; temporary = false; info = info_of (given_info value) };
}

made_tree : (state : StateValue) (left : ℕ) (value : Data) → IsBare left state → state.tree.greatest < channel_number value
    → (with_info (with_new state.tree (channel (channel_number value)) (channel (parent_number value)) (channel_name value) false) (channel (channel_number value)) (info_of (given_info value))).channels
    ≡ state.tree.channels ++ made_row state value ∷ []
made_tree state left value bare above =
    changed_last state.tree.channels (new_row (least_place state.tree.channels) (channel (channel_number value)) (channel (parent_number value)) (channel_name value) false) (channel (channel_number value))
    (λ one. record one { info = info_of (given_info value) })
    (λ k d within same. let known = bare.proper.tree.known k d within in absurd (omega arith))
    (eq-eqb (channel_number value) (channel_number value) refl)

-- ---- what is said of an entry

-- the root's entry is the one whose number is the root's
root_is : (found : Option Data) → needed (number_fault 0 greatest) found ≡ None
    → option_map_or (λ n. n == ROOT.0) (option_and_then as_u64 (option_and_then as_number found)) false ≡ eqb (unwrap_or (option_map number_of found) 0) 0
unfolding needed
root_is None none = absurd (cc)
root_is (Some (number (unsigned n))) none = refl
root_is (Some (number (negative n))) none = absurd (cc)
root_is (Some (number (float x))) none = absurd (cc)
root_is (Some value) none = absurd (cc)

root_lines : (value : Data) (met : ChannelsMet) → is_root_entry value ≡ true → channel_fault met value ≡ None
    → rows_fault (codes ".") (number_rows met.last value ++ info_rows value ++ policy_rows value) ≡ None
unfolding channel_fault root_fault
root_lines value met is none =
    later_none (opening_fault (codes ".") (codes "id" ∷ shared_names) value) _ (sym (ap (λ (b : Bool). cond b (root_fault met value) (made_fault met value)) is) ∙ none)

made_lines : (value : Data) (met : ChannelsMet) → is_root_entry value ≡ false → channel_fault met value ≡ None
    → rows_fault (codes ".") (number_rows met.last value ++ parent_rows met.depths value ++ name_rows met.seats value ++ info_rows value ++ policy_rows value) ≡ None
unfolding channel_fault made_fault
made_lines value met is none =
    later_none (opening_fault (codes ".") (codes "id" ∷ codes "parent" ∷ codes "name" ∷ shared_names) value) _
    (sym (ap (λ (b : Bool). cond b (root_fault met value) (made_fault met value)) is) ∙ none)

met_since : (met : ChannelsMet) (value : Data) → (with_channel_met met value).last ≡ Some (channel_number value)
unfolding with_channel_met
met_since met value = step (is_root_entry value)
  where
    step : (b : Bool) → (cond b (record met { last = Some (channel_number value) }) (record {
      last = Some (channel_number value);
      depths = insert_entry nat_eq met.depths (channel_number value) (depth_above met.depths value + 1);
      seats = met.seats ++ (parent_number value, channel_name value) ∷ [];
    })).last ≡ Some (channel_number value)
    step true = refl
    step false = refl

last_none : (last : Option ℕ) (n : ℕ) → n ≡ 0 → not (rises last n) ≡ false → last ≡ None
last_none None n zero rise = refl
last_none (Some before) n zero rise = absurd (never before n zero rise)
  where
    never : (before n : ℕ) → n ≡ 0 → not (nat_lt before n) ≡ false → ⊥
    never before n zero rise = grind (arith, nat_tests)

-- ---- the root's entry

abbrev root_row : ChannelInfo → Row
root_row info = record { place = 0; channel = record { id = ROOT; parent = ROOT; name = codes "Root"; temporary = false; info = info } }

given_is : {X : Type 0} (given : Option X) (before : X) → given_or given before ≡ unwrap_or given before
given_is None before = refl
given_is (Some x) before = refl

root_info : (given : GivenInfo) → record { description = given_or given.description []; position = given_or given.position (pos 0); max_users = given_or given.max_users 0 } ≡ info_of given
root_info given =
    ap (λ (text : List ℕ). record { description = text; position = given_or given.position (pos 0); max_users = given_or given.max_users 0 }) (given_is given.description [])
    ∙ ap (λ z. record { description = unwrap_or given.description []; position = z; max_users = given_or given.max_users 0 }) (given_is given.position (pos 0))
    ∙ ap (λ (n : ℕ). record { description = unwrap_or given.description []; position = unwrap_or given.position (pos 0); max_users = n }) (given_is given.max_users 0)

plain_given : (position : Option _) (users : Option ℕ) (description : Option (List ℕ)) → (is_some position || is_some users || is_some description) ≡ false
    → plain_info ≡ record { description = unwrap_or description []; position = unwrap_or position (pos 0); max_users = unwrap_or users 0 }
plain_given None None None none = refl
plain_given (Some a) users description none = absurd (cc)
plain_given None (Some b) description none = absurd (cc)
plain_given None None (Some c) none = absurd (cc)

info_goes : (Q : StateValue → Type 0) (given : GivenInfo) (state : StateValue) (left : ℕ) (rest : List Edit) → IsBare (suc left) state → state.tree.channels ≡ root_alone.channels
    → ((later : StateValue) → IsBare left later → later.tree.channels ≡ root_row (info_of given) ∷ [] → later.policies ≡ state.policies → IsBesideChannels state later → Goes Q later rest)
    → Goes Q state (root_edits given ++ rest)
info_goes Q given state left rest bare alone on = step (gives_info given) refl
  where
    edit : Edit
    edit = EditChannel ROOT None None None given.description given.position given.max_users [] []

    step : (b : Bool) → gives_info given ≡ b → Goes Q state (cond b (EditChannel ROOT None None None given.description given.position given.max_users [] [] ∷ []) [] ++ rest)
    step true gives =
        one_goes Q left state (EditChannel ROOT None None None given.description given.position given.max_users [] []) rest refl bare (λ led.
        on (applied state (EditChannel ROOT None None None given.description given.position given.max_users [] [])) led.bare
        (ap (λ (s : StateValue). s.tree.channels) led.is
        ∙ ap (changed ROOT (with_given (channel_parts None None given.description given.position given.max_users [] []))) alone
        ∙ ap (λ (info : ChannelInfo). root_row info ∷ []) (root_info given))
        (ap (λ (s : StateValue). s.policies) led.is)
        (record {
          server = ap (λ (s : StateValue). s.server) led.is;
          accounts = ap (λ (s : StateValue). s.accounts) led.is;
          links = ap (λ (s : StateValue). s.tree.links) led.is;
          limit = ap (λ (s : StateValue). s.tree.limit) led.is;
          roster = ap (λ (s : StateValue). s.roster) led.is;
        }))
    step false none =
        on state (less_left (suc left) left state (omega arith) bare)
        (alone ∙ ap (λ (info : ChannelInfo). root_row info ∷ []) (plain_given given.position given.max_users given.description none))
        refl
        (record { server = refl; accounts = refl; links = refl; limit = refl; roster = refl })

-- what the rest takes up after an entry
abbrev Further : (StateValue → Type 0) → List Data → List Data → ℕ → StateValue → List Edit → Type 0
Further Q all values left state rest =
    (later : StateValue) → IsBare left later → ChannelsSo all values later.tree.channels later.policies → IsBesideChannels state later → Goes Q later rest

root_goes : (Q : StateValue → Type 0) (all values : List Data) (value : Data) (met : ChannelsMet) (state : StateValue) (left : ℕ) (rest : List Edit) → IsBare (suc (suc left)) state → In value all
    → is_root_entry value ≡ true → channel_fault met value ≡ None → (met.last ≡ None → IsUntouched all (value ∷ values) state.tree.channels state.policies)
    → Further Q all values left state rest → Goes Q state (channel_edits value ++ rest)
unfolding channel_edits
root_goes Q all values value met state left rest bare inside is none untouched on =
    let front = rows_apart (codes ".") (number_rows met.last value) (info_rows value ++ policy_rows value) (root_lines value met is none) in
    let back = rows_apart (codes ".") (info_rows value) (policy_rows value) front.1 in
    let numbers : Each (λ row. row.1 ≡ None) (number_rows met.last value) = each_row (codes ".") (number_rows met.last value) front.0 in
    let zero : channel_number value ≡ 0 = eqb-true (channel_number value) 0 (sym (root_is (get (codes "id") value) numbers.0) ∙ is) in
    let before : IsUntouched all (value ∷ values) state.tree.channels state.policies = untouched (last_none met.last (channel_number value) zero (not_against _ _ numbers.1.0)) in
    let id : ChannelId = channel (channel_number value) in
    let root : id ≡ ROOT = ap channel zero in
    let says : SaysChannel value (root_row (info_of (given_info value))).channel = record {
      id = subst (λ (n : ℕ). Says IsNumber (get (codes "id") value) n) zero (needed_said (number_fault 0 greatest) number_of IsNumber (number_said 0 greatest) 0 (get (codes "id") value) numbers.0);
      parent = λ other. absurd (other refl);
      name = λ other. absurd (other refl);
      lasts = refl;
      info = info_said (codes ".") value back.0;
    } in
    goes_same Q state (channel_edits value ++ rest) (root_edits (given_info value) ++ (policy_edits id (given_policy value) ++ rest))
    (ap (λ (b : Bool). (cond b (root_edits (given_info value)) (made_edit value ∷ []) ++ policy_edits id (given_policy value)) ++ rest) is
    ∙ append_assoc (root_edits (given_info value)) (policy_edits id (given_policy value)) rest)
    (info_goes Q (given_info value) state (suc left) (policy_edits id (given_policy value) ++ rest) bare before.alone
    (λ now still channels policies beside.
    policy_goes Q (given_policy value) id [] now left rest still
    (policies ∙ before.open_root ∙ ap (λ (one : ChannelId). policy_row one ∷ []) (sym root)) tt
    (λ later bare_later ruled also.
    on later bare_later
    (subst (λ (rows : List PolicyRow). ChannelsSo all values later.tree.channels rows) (sym ruled)
    (subst (λ (rows : List Row). ChannelsSo all values rows (record { channel = id; policy = policy_of (given_policy value) } ∷ [])) (sym (ap (λ (t : TreeState). t.channels) also.tree ∙ channels))
    (root_so all values value (root_row (info_of (given_info value))) (record { channel = id; policy = policy_of (given_policy value) }) inside root says (policy_said (codes ".") value back.1)
    state.tree.channels state.policies before)))
    (record {
      server = also.server ∙ beside.server;
      accounts = also.accounts ∙ beside.accounts;
      links = ap (λ (t : TreeState). t.links) also.tree ∙ beside.links;
      limit = ap (λ (t : TreeState). t.limit) also.tree ∙ beside.limit;
      roster = also.roster ∙ beside.roster;
    }))))

-- ---- another entry

made_goes : (Q : StateValue → Type 0) (all values : List Data) (value : Data) (met : ChannelsMet) (state : StateValue) (left : ℕ) (rest : List Edit) → IsBare (suc (suc left)) state → In value all
    → is_root_entry value ≡ false → channel_fault met value ≡ None → ChannelsSo all (value ∷ values) state.tree.channels state.policies
    → Further Q all values left state rest → Goes Q state (channel_edits value ++ rest)
unfolding channel_edits
made_goes Q all values value met state left rest bare inside is none so on =
    let lines = made_lines value met is none in
    let front = rows_apart (codes ".") (number_rows met.last value ++ parent_rows met.depths value ++ name_rows met.seats value ++ info_rows value) (policy_rows value) lines in
    let middle = rows_apart (codes ".") (number_rows met.last value ++ parent_rows met.depths value ++ name_rows met.seats value) (info_rows value) front.0 in
    let rows : Each (λ row. row.1 ≡ None) (number_rows met.last value ++ parent_rows met.depths value ++ name_rows met.seats value) =
    each_row (codes ".") (number_rows met.last value ++ parent_rows met.depths value ++ name_rows met.seats value) middle.0 in
    let id : ChannelId = channel (channel_number value) in
    let row : Row = made_row state value in
    let says : SaysChannel value row.channel = record {
      id = needed_said (number_fault 0 greatest) number_of IsNumber (number_said 0 greatest) 0 (get (codes "id") value) rows.0;
      parent = λ other. needed_said (number_fault 0 greatest) number_of IsNumber (number_said 0 greatest) 0 (get (codes "parent") value) rows.1.1.0;
      name = λ other. needed_said name_fault text_of IsText name_said [] (get (codes "name") value) rows.1.1.1.1.1.0;
      lasts = refl;
      info = info_said (codes ".") value middle.1;
    } in
    goes_same Q state (channel_edits value ++ rest) (made_edit value ∷ (policy_edits id (given_policy value) ++ rest))
    (ap (λ (b : Bool). (cond b (root_edits (given_info value)) (made_edit value ∷ []) ++ policy_edits id (given_policy value)) ++ rest) is)
    (one_goes Q (suc left) state (made_edit value) (policy_edits id (given_policy value) ++ rest) refl bare
    (λ led.
    let above : state.tree.greatest < channel_number value = above_by_fit state id (channel (parent_number value)) (channel_name value) (info_of (given_info value)) led.fit in
    let now : StateValue = applied state (made_edit value) in
    policy_goes Q (given_policy value) id state.policies now left rest led.bare
    (ap (λ (s : StateValue). s.policies) led.is) (below_apart state (suc (suc left)) (channel_number value) bare above)
    (λ later bare_later ruled also.
    on later bare_later
    (subst (λ (list : List PolicyRow). ChannelsSo all values later.tree.channels list) (sym ruled)
    (subst (λ (list : List Row). ChannelsSo all values list (state.policies ++ record { channel = id; policy = policy_of (given_policy value) } ∷ []))
    (sym (ap (λ (t : TreeState). t.channels) also.tree ∙ ap (λ (s : StateValue). s.tree.channels) led.is ∙ made_tree state (suc (suc left)) value bare above))
    (made_so all values value row (record { channel = id; policy = policy_of (given_policy value) }) inside refl says (policy_said (codes ".") value front.1)
    state.tree.channels state.policies so)))
    (record {
      server = also.server ∙ ap (λ (s : StateValue). s.server) led.is;
      accounts = also.accounts ∙ ap (λ (s : StateValue). s.accounts) led.is;
      links = ap (λ (t : TreeState). t.links) also.tree ∙ ap (λ (s : StateValue). s.tree.links) led.is;
      limit = ap (λ (t : TreeState). t.limit) also.tree ∙ ap (λ (s : StateValue). s.tree.limit) led.is;
      roster = also.roster ∙ ap (λ (s : StateValue). s.roster) led.is;
    }))))

-- ---- all entries

never_none : (last : Option ℕ) (n : ℕ) → last ≡ Some n → last ≡ None → ⊥
never_none last n is none = let clash : Some n ≡ None = sym is ∙ none in cc

pub channels_go : (Q : StateValue → Type 0) (all values : List Data) (place : ℕ) (met : ChannelsMet) (state : StateValue) (left : ℕ) (rest : List Edit)
    → IsBare (2 * length values + left) state → Each (λ value. In value all) values → elements_fault channel_fault with_channel_met met place values ≡ None
    → ChannelsSo all values state.tree.channels state.policies → (met.last ≡ None → IsUntouched all values state.tree.channels state.policies)
    → Further Q all [] left state rest
    → Goes Q state (flat_map channel_edits values ++ rest)
channels_go Q all [] place met state left rest bare inside none so untouched on =
    on state (less_left (2 * 0 + left) left state (omega arith) bare) so (record { server = refl; accounts = refl; links = refl; limit = refl; roster = refl })
channels_go Q all (value ∷ values) place met state left rest bare inside none so untouched on =
    goes_same Q state (flat_map channel_edits (value ∷ values) ++ rest) (channel_edits value ++ (flat_map channel_edits values ++ rest))
    (append_assoc (channel_edits value) (flat_map channel_edits values) rest)
    (step (is_root_entry value) refl
    (λ later still so_then beside.
    channels_go Q all values (place + 1) (with_channel_met met value) later left rest still inside.1 (later_none _ _ none) so_then
    (λ nothing. absurd (never_none (with_channel_met met value).last (channel_number value) (met_since met value) nothing))
    (λ last bare_last so_last also. on last bare_last so_last (record {
      server = also.server ∙ beside.server;
      accounts = also.accounts ∙ beside.accounts;
      links = also.links ∙ beside.links;
      limit = also.limit ∙ beside.limit;
      roster = also.roster ∙ beside.roster;
    }))))
  where
    good : channel_fault met value ≡ None
    good = none_within _ _ (first_none _ _ none)

    here : IsBare (suc (suc (2 * length values + left))) state
    here = less_left (2 * suc (length values) + left) (suc (suc (2 * length values + left))) state (omega arith) bare

    step : (b : Bool) → is_root_entry value ≡ b → Further Q all values (2 * length values + left) state (flat_map channel_edits values ++ rest)
        → Goes Q state (channel_edits value ++ (flat_map channel_edits values ++ rest))
    step true is go_on = root_goes Q all values value met state (2 * length values + left) (flat_map channel_edits values ++ rest) here inside.0 is good untouched go_on
    step false is go_on = made_goes Q all values value met state (2 * length values + left) (flat_map channel_edits values ++ rest) here inside.0 is good so go_on
