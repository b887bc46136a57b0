-- The edits of channels fit one after the other.
use Rattle.mum_config.proofs.Common.{◌≡◌, ℕ, suc, ◌+◌, ◌*◌, ◌≤◌, ◌<◌, ◌==◌, ◌&&◌, ◌||◌, not, Bool, true, false, cond, eqb, ltb, List, [], ◌∷◌, ◌++◌, length, get_or, fold, Option, None, Some, MatchOption, is_none, is_some, append_assoc, refl, sym, ap, subst, ◌∙◌, arith, codes, nat_eq, nat_le, pos, unwrap_or, flat_map, list_any, option_and_then, option_map, option_map_or, and_from, eq-eqb, eqb-true, lt-ltb, nat_tests, length-append, map-append, Data, negative, float, unsigned, as_number, as_u64, get, insert_entry, ChannelId, ROOT, Channel, ChannelInfo, Row, Count, Nesting, NoChannel, SameName, TemporaryParent, fault_of_edit, given_or, with_change, least_place, IsProperTree, fault_of_add, is_full, is_taken, is_temporary, is_there, number_of_row, path, TreeState, changed, new_row, plain_info, with_info, with_new, with_row, five, changed_none, edits_both_ways, informed, informed_proper, Edit, EditChannel, MakeChannel, SetAcl, all_fit, applied, fits, holds_of_given, channel_parts, is_name, is_sound_policy, is_text, StateValue, Each, GivenInfo, GivenPolicy, greatest, needed, number_fault, number_of, text_fault, text_of, wanted, ChannelsMet, channel_edits, channel_fault, channel_name, channel_number, depth_above, depth_of, gives_policy, has_seat, info_of, is_root_entry, made_edit, made_fault, name_rows, number_rows, parent_number, parent_rows, policy_edits, policy_of, rises, root_edits, root_fault, shared_names, with_channel_met, given_info, given_policy, info_rows, policy_rows, elements_fault, opening_fault, rows_fault, first_none, later_none, none_within}
use Rattle.serde_json.specs.Data.{number}
use Rattle.mum_config.proofs.{Bare.IsBare, Bare.Leads, Bare.leads, Bare.less_left, Bare.one_more, FitPolicies.sound_policy, MetChannels.AreMet, MetChannels.channel, MetChannels.depth_inserted, MetChannels.met_grown, MetChannels.met_root, MetChannels.not_temporary, MetChannels.root_under, MetChannels.root_with, Said.each_row, Said.name_good, Said.not_against, Said.rows_apart, Said.text_good}

pub one_there : (there : Bool) → there ≡ true → (true && (there && true) && true) ≡ true
one_there true is = refl
one_there false is = absurd (cc)

over : (limit n : ℕ) → n < limit → nat_le limit n ≡ false
over limit n few = grind (arith, nat_tests)

-- ---- a channel is made

-- a change of the last row, whose number no other has
changed_last : (rows : List Row) (last : Row) (id : ChannelId) (change : Channel → Channel) → ((k : ℕ) (d : Row) → k < length rows → number_of_row (get_or rows k d) ≡ id.0 → ⊥) → eqb (number_of_row last) id.0 ≡ true
    → changed id change (rows ++ last ∷ []) ≡ rows ++ record last { channel = change last.channel } ∷ []
changed_last rows last id change others is =
    map-append _ rows (last ∷ [])
    ∙ ap (λ (front : List Row). front ++ changed id change (last ∷ [])) (changed_none rows id change others)
    ∙ ap (λ (b : Bool). rows ++ cond b (record last { channel = change last.channel }) last ∷ []) is

record Made (left : ℕ) (met : ChannelsMet) (id : ChannelId) (state : StateValue) (edit : Edit) : Type 0 where
  fit : fits state edit ≡ true
  bare : IsBare left (applied state edit)
  met_too : AreMet met (applied state edit).tree
  longer : length (applied state edit).tree.channels ≡ suc (length state.tree.channels)

module _ (left : ℕ) (met : ChannelsMet) (state : StateValue) (n parent : ℕ) (name : List ℕ) (info : ChannelInfo) (depth : ℕ)
    (bare : IsBare (suc left) state) (are : AreMet met state.tree) (above : state.tree.greatest < n)
    (seat : depth_of met.depths parent ≡ Some depth) (few : depth < 33) where
  abbrev row : Row
  row = record {
    place = least_place state.tree.channels;
    channel = record { id = channel n; parent = channel parent; name = name; temporary = false; info = info };
  }

  made_tree : with_info (with_new state.tree (channel n) (channel parent) name false) (channel n) info ≡ with_row state.tree row
  made_tree =
      ap (λ (rows : List Row). record { channels = rows; links = state.tree.links; greatest = n; limit = state.tree.limit })
      (changed_last state.tree.channels (new_row (least_place state.tree.channels) (channel n) (channel parent) name false) (channel n) (informed info)
      (λ k d within same. let known = bare.proper.tree.known k d within in absurd (omega arith))
      (eq-eqb n n refl))

  allowed : has_seat met.seats parent name ≡ false → length state.tree.channels < 1024 → fault_of_add state.tree (channel n) (channel parent) name ≡ None
  allowed free room =
      five (not (is_there state.tree.channels (channel parent))) (is_taken state.tree.channels (channel parent) (channel n) name) (is_temporary state.tree.channels (channel parent))
      (nat_le 33 (length (path state.tree.channels (channel parent)))) (is_full state.tree) NoChannel SameName TemporaryParent Nesting Count
      (ap not (are.there parent ∙ ap is_some seat))
      (are.seats n parent name above ∙ free)
      (not_temporary state.tree.channels (channel parent) are.lasting)
      (over 33 (length (path state.tree.channels (channel parent))) (omega (arith, are.deep parent depth seat)))
      (over state.tree.limit (length state.tree.channels) (omega (arith, room, are.wide)))

  made : has_seat met.seats parent name ≡ false → length state.tree.channels < 1024 → is_name name ≡ true → is_text info.description ≡ true
      → Made left (record { last = Some n; depths = insert_entry nat_eq met.depths n (depth + 1); seats = met.seats ++ (parent, name) ∷ [] }) (channel n) state (MakeChannel (channel n) (channel parent) name false info None)
  made free room named text =
      let edit : Edit = MakeChannel (channel n) (channel parent) name false info None in
      let led : Leads left state edit = leads left state edit refl bare
      (one_there (is_there state.tree.channels (channel parent)) (are.there parent ∙ ap is_some seat))
      (lt-ltb state.tree.greatest n above)
      (and_from _ _ (and_from _ _ (ap is_none (allowed free room)) named) text) in
      let tree : (applied state edit).tree ≡ with_row state.tree row = ap (λ (s : StateValue). s.tree) led.is ∙ made_tree in
      record {
        fit = led.fit;
        bare = led.bare;
        met_too = subst (AreMet (record { last = Some n; depths = insert_entry nat_eq met.depths n (depth + 1); seats = met.seats ++ (parent, name) ∷ [] })) (sym tree) (met_grown met state.tree row depth bare.proper.tree are above seat few refl);
        longer = ap (λ (t : TreeState). length t.channels) tree ∙ longer_by_one state.tree.channels;
      }
    where
      longer_by_one : (rows : List Row) → length (rows ++ row ∷ []) ≡ suc (length rows)
      longer_by_one rows = omega (arith, length-append rows (row ∷ []))

-- ---- a policy is set

pub policy_fits : (given : GivenPolicy) (id : ChannelId) (state : StateValue) (left : ℕ) (rest : List Edit) → IsBare (suc left) state → is_there state.tree.channels id ≡ true → is_sound_policy (policy_of given) ≡ true
    → ((later : StateValue) → IsBare left later → later.tree ≡ state.tree → all_fit later rest ≡ true)
    → all_fit state (policy_edits id given ++ rest) ≡ true
policy_fits given id state left rest bare there sound on = step (gives_policy given)
  where
    edit : Edit
    edit = SetAcl id None (policy_of given)

    led : Leads left state edit
    led = leads left state edit refl bare (one_there (is_there state.tree.channels id) there) refl sound

    step : (b : Bool) → all_fit state (cond b (SetAcl id None (policy_of given) ∷ []) [] ++ rest) ≡ true
    step true = one_more state edit rest led.fit (on (applied state edit) led.bare (ap (λ (s : StateValue). s.tree) led.is))
    step false = on state (less_left (suc left) left state (omega arith) bare) refl

-- ---- the root is changed

root_edited : (limit : ℕ) → IsProperTree (root_under limit) → (description : Option (List ℕ)) (position : Option _) (users : Option ℕ) → IsProperTree (with_change (root_under limit) ROOT (channel_parts None None description position users [] []))
root_edited limit proper description position users =
    informed_proper (root_under limit) ROOT (record { description = given_or description []; position = given_or position (pos 0); max_users = given_or users 0 }) proper

module _ (given : GivenInfo) (met : ChannelsMet) (state : StateValue) (left : ℕ) (rest : List Edit) (bare : IsBare (suc left) state) (are : AreMet met state.tree) (alone : state.tree ≡ root_under state.tree.limit) (text : holds_of_given is_text given.description ≡ true)
    (on : (later : StateValue) → IsBare left later → AreMet (record met { last = Some 0 }) later.tree → length later.tree.channels ≡ length state.tree.channels → all_fit later rest ≡ true) where
  root_proper : IsProperTree (root_under state.tree.limit)
  root_proper = subst IsProperTree alone bare.proper.tree

  root_allowed : fault_of_edit state.tree ROOT (channel_parts None None given.description given.position given.max_users [] []) ≡ None
  root_allowed =
      ap (λ (t : TreeState). fault_of_edit t ROOT (channel_parts None None given.description given.position given.max_users [] [])) alone
      ∙ (edits_both_ways (root_under state.tree.limit) ROOT (channel_parts None None given.description given.position given.max_users [] []) root_proper refl).1
      (root_edited state.tree.limit root_proper given.description given.position given.max_users)

  root_led : Leads left state (EditChannel ROOT None None None given.description given.position given.max_users [] [])
  root_led =
      leads left state (EditChannel ROOT None None None given.description given.position given.max_users [] []) refl bare
      (one_there (is_there state.tree.channels ROOT) (ap (λ (t : TreeState). is_there t.channels ROOT) alone))
      refl
      (and_from _ _ (and_from _ _ (ap is_none root_allowed) refl) text)

  root_tree : (applied state (EditChannel ROOT None None None given.description given.position given.max_users [] [])).tree ≡ root_with state.tree.limit (record { description = given_or given.description []; position = given_or given.position (pos 0); max_users = given_or given.max_users 0 })
  root_tree =
      ap (λ (s : StateValue). s.tree) root_led.is
      ∙ ap (λ (t : TreeState). with_change t ROOT (channel_parts None None given.description given.position given.max_users [] [])) alone

  root_fits : all_fit state (root_edits given ++ rest) ≡ true
  root_fits = step (gives given)
    where
      gives : GivenInfo → Bool
      gives info = is_some info.position || is_some info.max_users || is_some info.description

      met_alone : AreMet met (root_under state.tree.limit)
      met_alone = subst (AreMet met) alone are

      step : (b : Bool) → all_fit state (cond b (EditChannel ROOT None None None given.description given.position given.max_users [] [] ∷ []) [] ++ rest) ≡ true
      step true =
          one_more state (EditChannel ROOT None None None given.description given.position given.max_users [] []) rest root_led.fit
          (on (applied state (EditChannel ROOT None None None given.description given.position given.max_users [] [])) root_led.bare
          (subst (AreMet (record met { last = Some 0 })) (sym root_tree) (met_root met state.tree.limit (record { description = given_or given.description []; position = given_or given.position (pos 0); max_users = given_or given.max_users 0 }) met_alone))
          (ap (λ (t : TreeState). length t.channels) root_tree ∙ sym (ap (λ (t : TreeState). length t.channels) alone)))
      step false =
          on state (less_left (suc left) left state (omega arith) bare)
          (subst (AreMet (record met { last = Some 0 })) (sym alone) (met_root met state.tree.limit plain_info met_alone))
          refl

-- ---- an entry

-- the root's entry is the one whose number is the root's
root_is : (found : Option Data) → needed (number_fault 0 greatest) found ≡ None
    → option_map_or (λ n. n == ROOT.0) (option_and_then as_u64 (option_and_then as_number found)) false ≡ eqb (unwrap_or (option_map number_of found) 0) 0
unfolding needed
root_is None none = absurd (cc)
root_is (Some (number (unsigned n))) none = refl
root_is (Some (number (negative n))) none = absurd (cc)
root_is (Some (number (float x))) none = absurd (cc)
root_is (Some value) none = absurd (cc)

given_text : (found : Option Data) → wanted (text_fault 20000) found ≡ None → holds_of_given is_text (option_map text_of found) ≡ true
given_text None none = refl
given_text (Some value) none = text_good (Some value) none

-- what was met before an entry of the root
alone_before : (met : ChannelsMet) (tree : TreeState) (n : ℕ) → AreMet met tree → eqb n 0 ≡ true → not (rises met.last n) ≡ false → tree ≡ root_under tree.limit
alone_before met tree n are zero rise = before met.last are.last rise
  where
    never : (n before : ℕ) → eqb n 0 ≡ true → not (ltb before n) ≡ false → ⊥
    never n before zero rise = grind (arith, nat_tests)

    before : (last : Option ℕ) → MatchOption last (tree ≡ root_under tree.limit) (λ before. tree.greatest ≤ before) → not (rises last n) ≡ false → tree ≡ root_under tree.limit
    before None is rise = is
    before (Some one) is rise = absurd (never n one zero rise)

-- and before another
above_before : (met : ChannelsMet) (tree : TreeState) (n : ℕ) → AreMet met tree → eqb n 0 ≡ false → not (rises met.last n) ≡ false → tree.greatest < n
above_before met tree n are other rise = before met.last are.last rise
  where
    positive : (n g : ℕ) → g ≡ 0 → eqb n 0 ≡ false → g < n
    positive n g none other = grind (arith, nat_tests)

    further : (n before g : ℕ) → g ≤ before → not (ltb before n) ≡ false → g < n
    further n before g most rise = grind (arith, nat_tests)

    before : (last : Option ℕ) → MatchOption last (tree ≡ root_under tree.limit) (λ before. tree.greatest ≤ before) → not (rises last n) ≡ false → tree.greatest < n
    before None is rise = positive n tree.greatest (ap (λ (t : TreeState). t.greatest) is) other
    before (Some one) is rise = further n one tree.greatest is rise

some_of : (found : Option ℕ) → is_none found ≡ false → found ≡ Some (unwrap_or found 0)
some_of None none = absurd (cc)
some_of (Some depth) none = refl

fewer : (depth : ℕ) → nat_le 33 depth ≡ false → depth < 33
fewer depth few = grind (arith, nat_tests)

module _ (value : Data) (met : ChannelsMet) (is : is_root_entry value ≡ true) where
  root_said : channel_fault met value ≡ None → root_fault met value ≡ None
  unfolding channel_fault
  root_said none = sym (ap (λ (b : Bool). cond b (root_fault met value) (made_fault met value)) is) ∙ none

  root_lines : channel_fault met value ≡ None → rows_fault (codes ".") (number_rows met.last value ++ info_rows value ++ policy_rows value) ≡ None
  unfolding root_fault
  root_lines none = later_none (opening_fault (codes ".") (codes "id" ∷ shared_names) value) _ (root_said none)

  root_edits_are : channel_edits value ≡ root_edits (given_info value) ++ policy_edits (channel (channel_number value)) (given_policy value)
  unfolding channel_edits
  root_edits_are = ap (λ (b : Bool). cond b (root_edits (given_info value)) (made_edit value ∷ []) ++ policy_edits (channel (channel_number value)) (given_policy value)) is

  root_met_is : channel_number value ≡ 0 → with_channel_met met value ≡ record met { last = Some 0 }
  unfolding with_channel_met
  root_met_is zero =
      ap (λ (b : Bool). cond b (record met { last = Some (channel_number value) }) (record {
        last = Some (channel_number value);
        depths = insert_entry nat_eq met.depths (channel_number value) (depth_above met.depths value + 1);
        seats = met.seats ++ (parent_number value, channel_name value) ∷ [];
      })) is
      ∙ ap (λ (n : ℕ). record met { last = Some n }) zero

root_entry_fits : (value : Data) (met : ChannelsMet) (state : StateValue) (left : ℕ) (rest : List Edit) → IsBare (suc (suc left)) state → AreMet met state.tree → is_root_entry value ≡ true → channel_fault met value ≡ None
    → ((later : StateValue) → IsBare left later → AreMet (with_channel_met met value) later.tree → length later.tree.channels ≡ length state.tree.channels → all_fit later rest ≡ true)
    → all_fit state (channel_edits value ++ rest) ≡ true
root_entry_fits value met state left rest bare are is none on =
    let front = rows_apart (codes ".") (number_rows met.last value) (info_rows value ++ policy_rows value) (root_lines value met is none) in
    let back = rows_apart (codes ".") (info_rows value) (policy_rows value) front.1 in
    let numbers : Each (λ row. row.1 ≡ None) (number_rows met.last value) = each_row (codes ".") (number_rows met.last value) front.0 in
    let infos : Each (λ row. row.1 ≡ None) (info_rows value) = each_row (codes ".") (info_rows value) back.0 in
    let zero : eqb (channel_number value) 0 ≡ true = sym (root_is (get (codes "id") value) numbers.0) ∙ is in
    let none_before : channel_number value ≡ 0 = eqb-true (channel_number value) 0 zero in
    let alone : state.tree ≡ root_under state.tree.limit = alone_before met state.tree (channel_number value) are zero (not_against _ _ numbers.1.0) in
    let there : is_some (depth_of met.depths 0) ≡ true = sym ((subst (AreMet met) alone are).there 0) in
    ap (λ (edits : List Edit). all_fit state (edits ++ rest)) (root_edits_are value met is)
    ∙ ap (all_fit state) (append_assoc (root_edits (given_info value)) (policy_edits (channel (channel_number value)) (given_policy value)) rest)
    ∙ root_fits (given_info value) met state (suc left) (policy_edits (channel (channel_number value)) (given_policy value) ++ rest) bare are alone (given_text (get (codes "description") value) infos.1.1.0)
    (λ now still now_met same.
    policy_fits (given_policy value) (channel (channel_number value)) now left rest still
    (subst (λ (n : ℕ). is_there now.tree.channels (channel n) ≡ true) (sym none_before) (now_met.there 0 ∙ there))
    (sound_policy (codes ".") value back.1)
    (λ later bare_later tree_later.
    on later bare_later
    (subst (λ (m : ChannelsMet). AreMet m later.tree) (sym (root_met_is value met is none_before)) (subst (AreMet (record met { last = Some 0 })) (sym tree_later) now_met))
    (ap (λ (t : TreeState). length t.channels) tree_later ∙ same)))

module _ (value : Data) (met : ChannelsMet) (is : is_root_entry value ≡ false) where
  made_said : channel_fault met value ≡ None → made_fault met value ≡ None
  unfolding channel_fault
  made_said none = sym (ap (λ (b : Bool). cond b (root_fault met value) (made_fault met value)) is) ∙ none

  made_lines : channel_fault met value ≡ None
      → rows_fault (codes ".") (number_rows met.last value ++ parent_rows met.depths value ++ name_rows met.seats value ++ info_rows value ++ policy_rows value) ≡ None
  unfolding made_fault
  made_lines none = later_none (opening_fault (codes ".") (codes "id" ∷ codes "parent" ∷ codes "name" ∷ shared_names) value) _ (made_said none)

  made_edits_are : channel_edits value ≡ made_edit value ∷ policy_edits (channel (channel_number value)) (given_policy value)
  unfolding channel_edits
  made_edits_are = ap (λ (b : Bool). cond b (root_edits (given_info value)) (made_edit value ∷ []) ++ policy_edits (channel (channel_number value)) (given_policy value)) is

  made_met_is : with_channel_met met value ≡ record {
    last = Some (channel_number value);
    depths = insert_entry nat_eq met.depths (channel_number value) (depth_above met.depths value + 1);
    seats = met.seats ++ (parent_number value, channel_name value) ∷ [];
  }
  unfolding with_channel_met
  made_met_is =
      ap (λ (b : Bool). cond b (record met { last = Some (channel_number value) }) (record {
        last = Some (channel_number value);
        depths = insert_entry nat_eq met.depths (channel_number value) (depth_above met.depths value + 1);
        seats = met.seats ++ (parent_number value, channel_name value) ∷ [];
      })) is

entry_made : (value : Data) (met : ChannelsMet) (state : StateValue) (left : ℕ) → IsBare (suc left) state → AreMet met state.tree → is_root_entry value ≡ false → length state.tree.channels < 1024
    → rows_fault (codes ".") (number_rows met.last value) ≡ None → rows_fault (codes ".") (parent_rows met.depths value) ≡ None → rows_fault (codes ".") (name_rows met.seats value) ≡ None
    → rows_fault (codes ".") (info_rows value) ≡ None
    → Made left (with_channel_met met value) (channel (channel_number value)) state (made_edit value)
entry_made value met state left bare are is room number_lines parent_lines name_lines info_lines =
    let numbers : Each (λ row. row.1 ≡ None) (number_rows met.last value) = each_row (codes ".") (number_rows met.last value) number_lines in
    let parents : Each (λ row. row.1 ≡ None) (parent_rows met.depths value) = each_row (codes ".") (parent_rows met.depths value) parent_lines in
    let names : Each (λ row. row.1 ≡ None) (name_rows met.seats value) = each_row (codes ".") (name_rows met.seats value) name_lines in
    let infos : Each (λ row. row.1 ≡ None) (info_rows value) = each_row (codes ".") (info_rows value) info_lines in
    let other : eqb (channel_number value) 0 ≡ false = sym (root_is (get (codes "id") value) numbers.0) ∙ is in
    subst (λ (m : ChannelsMet). Made left m (channel (channel_number value)) state (made_edit value)) (sym (made_met_is value met is))
    (made left met state (channel_number value) (parent_number value) (channel_name value) (info_of (given_info value)) (depth_above met.depths value) bare are
    (above_before met state.tree (channel_number value) are other (not_against _ _ numbers.1.0))
    (some_of (depth_of met.depths (parent_number value)) (not_against _ _ parents.1.0))
    (fewer (depth_above met.depths value) (not_against _ _ parents.1.1.0))
    (not_against _ _ names.1.0)
    room
    (name_good (get (codes "name") value) names.0)
    (text_good (get (codes "description") value) infos.1.1.0))

made_entry_fits : (value : Data) (met : ChannelsMet) (state : StateValue) (left : ℕ) (rest : List Edit) → IsBare (suc (suc left)) state → AreMet met state.tree → is_root_entry value ≡ false → length state.tree.channels < 1024 → channel_fault met value ≡ None
    → ((later : StateValue) → IsBare left later → AreMet (with_channel_met met value) later.tree → length later.tree.channels ≡ suc (length state.tree.channels) → all_fit later rest ≡ true)
    → all_fit state (channel_edits value ++ rest) ≡ true
made_entry_fits value met state left rest bare are is room none on =
    let edit : Edit = made_edit value in
    let one = rows_apart (codes ".") (number_rows met.last value) (parent_rows met.depths value ++ name_rows met.seats value ++ info_rows value ++ policy_rows value) (made_lines value met is none) in
    let two = rows_apart (codes ".") (parent_rows met.depths value) (name_rows met.seats value ++ info_rows value ++ policy_rows value) one.1 in
    let three = rows_apart (codes ".") (name_rows met.seats value) (info_rows value ++ policy_rows value) two.1 in
    let last = rows_apart (codes ".") (info_rows value) (policy_rows value) three.1 in
    let now : Made (suc left) (with_channel_met met value) (channel (channel_number value)) state edit = entry_made value met state (suc left) bare are is room one.0 two.0 three.0 last.0 in
    let there : is_there (applied state edit).tree.channels (channel (channel_number value)) ≡ true =
    now.met_too.there (channel_number value) ∙ ap (λ (m : ChannelsMet). is_some (depth_of m.depths (channel_number value))) (made_met_is value met is) ∙ newly met.depths (channel_number value) (depth_above met.depths value + 1) in
    ap (λ (edits : List Edit). all_fit state (edits ++ rest)) (made_edits_are value met is)
    ∙ one_more state edit (policy_edits (channel (channel_number value)) (given_policy value) ++ rest) now.fit
    (policy_fits (given_policy value) (channel (channel_number value)) (applied state edit) left rest now.bare there (sound_policy (codes ".") value last.1)
    (λ later bare_later tree_later.
    on later bare_later (subst (AreMet (with_channel_met met value)) (sym tree_later) now.met_too) (ap (λ (t : TreeState). length t.channels) tree_later ∙ now.longer)))
  where
    newly : (depths : List (ℕ × ℕ)) (n depth : ℕ) → is_some (depth_of (insert_entry nat_eq depths n depth) n) ≡ true
    newly depths n depth = ap is_some (depth_inserted depths n depth n ∙ ap (λ (b : Bool). cond b (Some depth) (depth_of depths n)) (eq-eqb n n refl))

-- ---- all entries

-- how many of them make a channel
abbrev pub made_count : List Data → ℕ
made_count [] = 0
made_count (value ∷ values) = cond (is_root_entry value) (made_count values) (suc (made_count values))

few_made : (values : List Data) → made_count values ≤ length values
few_made [] = omega arith
few_made (value ∷ values) = step (is_root_entry value) (few_made values)
  where
    step : (b : Bool) → made_count values ≤ length values → cond b (made_count values) (suc (made_count values)) ≤ suc (length values)
    step true few = omega arith
    step false few = omega arith

pub made_with_root : (values : List Data) → 1 + made_count values ≤ length values + cond (list_any is_root_entry values) 0 1
made_with_root [] = omega arith
made_with_root (value ∷ values) = step (is_root_entry value) (few_made values) (made_with_root values)
  where
    step : (b : Bool) → made_count values ≤ length values → 1 + made_count values ≤ length values + cond (list_any is_root_entry values) 0 1
        → 1 + cond b (made_count values) (suc (made_count values)) ≤ suc (length values) + cond (b || list_any is_root_entry values) 0 1
    step true few rest = omega arith
    step false few rest = omega arith

pub channels_fit : (values : List Data) (place : ℕ) (met : ChannelsMet) (state : StateValue) (left : ℕ) (rest : List Edit)
    → IsBare (2 * length values + left) state → AreMet met state.tree → length state.tree.channels + made_count values ≤ 1024
    → elements_fault channel_fault with_channel_met met place values ≡ None
    → ((later : StateValue) → IsBare left later → AreMet (fold with_channel_met met values) later.tree → all_fit later rest ≡ true)
    → all_fit state (flat_map channel_edits values ++ rest) ≡ true
channels_fit [] place met state left rest bare are few none on = on state (less_left (2 * 0 + left) left state (omega arith) bare) are
channels_fit (value ∷ values) place met state left rest bare are few none on =
    ap (all_fit state) (append_assoc (channel_edits value) (flat_map channel_edits values) rest)
    ∙ step (is_root_entry value) refl few
    (less_left (2 * length (value ∷ values) + left) (suc (suc (2 * length values + left))) state (omega arith) bare)
    (none_within _ _ (first_none _ _ none))
    (λ later still now_met room. channels_fit values (place + 1) (with_channel_met met value) later left rest still now_met room (later_none _ _ none) on)
  where
    step : (b : Bool) → is_root_entry value ≡ b → length state.tree.channels + cond b (made_count values) (suc (made_count values)) ≤ 1024
        → IsBare (suc (suc (2 * length values + left))) state → channel_fault met value ≡ None
        → ((later : StateValue) → IsBare (2 * length values + left) later → AreMet (with_channel_met met value) later.tree → length later.tree.channels + made_count values ≤ 1024 → all_fit later (flat_map channel_edits values ++ rest) ≡ true)
        → all_fit state (channel_edits value ++ (flat_map channel_edits values ++ rest)) ≡ true
    step true is room bare_now good further =
        root_entry_fits value met state (2 * length values + left) (flat_map channel_edits values ++ rest) bare_now are is good
        (λ later still now_met same. further later still now_met (omega arith))
    step false is room bare_now good further =
        made_entry_fits value met state (2 * length values + left) (flat_map channel_edits values ++ rest) bare_now are is (omega arith) good
        (λ later still now_met same. further later still now_met (omega arith))
