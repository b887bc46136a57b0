-- A channel of which several parts become others.
use Rattle.mum_state.proofs.Common.{◌≡◌, ◌↔◌, ◌&&◌, ◌++◌, Bool, true, false, cond, eqb, List, ◌∷◌, map, refl, sym, ap, ◌∙◌, Option, Some, None, is_none, list_all, and_from, and_parts, eq-eqb, list_all-append, list_all-map, ChannelId, Row, Change, fault_of_edit, given_or, parent_after, with_change, with_given, IsProperTree, parent_of, is_there, number, row_of, TreeState, changed, change_row, number_found, edits_both_ways, still_given, some_row, holds_of_given, given, IsProper, is_name, is_sound_channel, is_text, StateValue}
use Rattle.mum_tree.specs.Change.{names_there}
use Rattle.mum_state.proofs.{Closed.found_row_holds, Givens.given_back, Givens.given_good, Givens.holds_of_list, Givens.is_none_of, Givens.none_is, Gone.parent_there, Listed.all_at, Listed.all_map, Listed.all_too, Listed.map_same, Listed.map_twice, Parted.with_channels}

-- each channel that the change names is there, as the tree says it
parent_named : (tree : TreeState) (id : ChannelId) (parent : Option ChannelId) → IsProperTree tree → is_there tree.channels id ≡ true → holds_of_given (is_there tree.channels) parent ≡ true
    → is_there tree.channels (given_or parent (parent_of tree id)) ≡ true
parent_named tree id None proper there named = parent_there tree id proper there
parent_named tree id (Some parent) proper there named = named

pub named_in_tree : (tree : TreeState) (id : ChannelId) (change : Change) → IsProperTree tree
    → list_all (is_there tree.channels) (id ∷ (given change.parent ++ change.links_add ++ change.links_remove)) ≡ true → names_there tree id change ≡ true
named_in_tree tree id change proper named =
    let there : ChannelId → Bool = is_there tree.channels in
    let (here, rest) = and_parts (there id) (list_all there (given change.parent ++ change.links_add ++ change.links_remove)) named in
    let (front, removes) = and_parts (list_all there (given change.parent ++ change.links_add)) (list_all there change.links_remove)
    (sym (list_all-append there (given change.parent ++ change.links_add) change.links_remove) ∙ rest) in
    let (parent, adds) = and_parts (list_all there (given change.parent)) (list_all there change.links_add)
    (sym (list_all-append there (given change.parent) change.links_add) ∙ front) in
    and_from (there id && there (parent_after tree id change) && list_all there change.links_add) (list_all there change.links_remove)
    (and_from (there id && there (parent_after tree id change)) (list_all there change.links_add)
    (and_from (there id) (there (parent_after tree id change)) here (parent_named tree id change.parent proper here (holds_of_list there change.parent parent)))
    adds)
    removes

-- nothing forbids the change, and its texts are as they may be
abbrev pub may_edit : StateValue → ChannelId → Change → Bool
may_edit state id change =
    is_none (fault_of_edit state.tree id change) && holds_of_given is_name change.name && holds_of_given is_text change.description

-- a channel stays sound
sound_given : (id : ChannelId) (change : Change) → holds_of_given is_name change.name ≡ true → holds_of_given is_text change.description ≡ true
    → (row : Row) → is_sound_channel row ≡ true → is_sound_channel (change_row id (with_given change) row) ≡ true
sound_given id change name text row sound = step (eqb (number row) id.0)
  where
    parts : (is_name row.channel.name ≡ true) × (is_text row.channel.info.description ≡ true)
    parts = and_parts (is_name row.channel.name) (is_text row.channel.info.description) sound

    step : (b : Bool) → is_sound_channel (cond b (record row { channel = with_given change row.channel }) row) ≡ true
    step true =
        and_from (is_name (given_or change.name row.channel.name)) (is_text (given_or change.description row.channel.info.description))
        (given_good is_name change.name row.channel.name name parts.0)
        (given_good is_text change.description row.channel.info.description text parts.1)
    step false = sound

same_ids : (id : ChannelId) (change : Change) (rows : List Row) → map (λ row. row.channel.id) (changed id (with_given change) rows) ≡ map (λ row. row.channel.id) rows
same_ids id change rows =
    map_twice (λ (row : Row). row.channel.id) (change_row id (with_given change)) rows
    ∙ map_same (λ row. (change_row id (with_given change) row).channel.id) (λ row. row.channel.id) (λ row. step row (eqb (number row) id.0)) rows
  where
    step : (row : Row) (b : Bool) → (cond b (record row { channel = with_given change row.channel }) row).channel.id ≡ row.channel.id
    step row true = refl
    step row false = refl

edit_to : (state : StateValue) (id : ChannelId) (change : Change) → IsProper state → names_there state.tree id change ≡ true → may_edit state id change ≡ true
    → IsProper (record state { tree = with_change state.tree id change })
edit_to state id change proper named may =
    let none : Bool = is_none (fault_of_edit state.tree id change) in
    let (both, text) = and_parts (none && holds_of_given is_name change.name) (holds_of_given is_text change.description) may in
    let (allowed, name) = and_parts none (holds_of_given is_name change.name) both in
    let rows : List Row = state.tree.channels in
    let after : List Row = changed id (with_given change) rows in
    with_channels state (with_change state.tree id change) state.policies proper
    ((edits_both_ways state.tree id change proper.tree named).0 (none_is (fault_of_edit state.tree id change) allowed))
    (all_map is_sound_channel is_sound_channel (change_row id (with_given change)) (sound_given id change name text) rows proper.channels)
    (proper.policies ∙ sym (same_ids id change rows))
    proper.sound_policies
    (all_too (λ user. is_there rows user.channel) (λ user. is_there after user.channel) (λ user. still_given rows id change user.channel) state.roster.sessions proper.inside)
    (all_too (λ pair. is_there rows pair.channel) (λ pair. is_there after pair.channel) (λ pair. still_given rows id change pair.channel) state.roster.listeners proper.listening)

edit_from : (state : StateValue) (id : ChannelId) (change : Change) → IsProper state → names_there state.tree id change ≡ true → is_there state.tree.channels id ≡ true
    → IsProper (record state { tree = with_change state.tree id change }) → may_edit state id change ≡ true
edit_from state id change proper named there after =
    let rows : List Row = state.tree.channels in
    let f : Row → Row = change_row id (with_given change) in
    let (row, found) = some_row (row_of rows id) there in
    let each : list_all (λ one. is_sound_channel (f one)) rows ≡ true = sym (list_all-map is_sound_channel f rows) ∙ after.channels in
    let sound : is_sound_channel (f row) ≡ true = found_row_holds (λ one. is_sound_channel (f one) ≡ true) rows id row (all_at (λ one. is_sound_channel (f one)) rows each) found in
    let is : eqb (number row) id.0 ≡ true = eq-eqb (number row) id.0 (number_found rows id row found) in
    let changed_sound : is_sound_channel (record row { channel = with_given change row.channel }) ≡ true =
    sym (ap (λ (b : Bool). is_sound_channel (cond b (record row { channel = with_given change row.channel }) row)) is) ∙ sound in
    let (name, text) = and_parts (is_name (given_or change.name row.channel.name)) (is_text (given_or change.description row.channel.info.description)) changed_sound in
    let none : Bool = is_none (fault_of_edit state.tree id change) in
    and_from (none && holds_of_given is_name change.name) (holds_of_given is_text change.description)
    (and_from none (holds_of_given is_name change.name)
    (is_none_of (fault_of_edit state.tree id change) ((edits_both_ways state.tree id change proper.tree named).1 after.tree))
    (given_back is_name change.name row.channel.name name))
    (given_back is_text change.description row.channel.info.description text)

-- nothing forbids a change of a channel exactly where the state after it is proper
pub changes_both_ways : (state : StateValue) (id : ChannelId) (change : Change) → IsProper state
    → list_all (is_there state.tree.channels) (id ∷ (given change.parent ++ change.links_add ++ change.links_remove)) ≡ true
    → (may_edit state id change ≡ true) ↔ IsProper (record state { tree = with_change state.tree id change })
changes_both_ways state id change proper named =
    let in_tree = named_in_tree state.tree id change proper.tree named in
    let there : is_there state.tree.channels id ≡ true = (and_parts (is_there state.tree.channels id) (list_all (is_there state.tree.channels) (given change.parent ++ change.links_add ++ change.links_remove)) named).0 in
    (edit_to state id change proper in_tree, edit_from state id change proper in_tree there)
