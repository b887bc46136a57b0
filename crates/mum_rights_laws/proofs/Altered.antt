-- What an accepted message on channels sets of channels that are there, and of one that comes.
use Rattle.mum_rights_laws.proofs.Common.{◌≡◌, ◌≢◌, ◌<◌, ◌==◌, ◌&&◌, not, Bool, true, false, cond, List, [], ◌∷◌, ◌++◌, Some, None, refl, ap, sym, ◌∙◌, arith, find, list_any, is_none, is_some, option_map, option_map_or, option_or, and_parts, both_ways, eq-eqb, ltb-true, ne_eqb, find-append, ChannelId, SessionId, ROOT, ChannelState, with_given, least_place, is_below, is_root, is_there, number, row_of, new_row, Channel, Row, NoChannel, RootFixed, change_row, number_found, row_of-map, kept_row, there_after, User, fits, gives_right_numbers, is_countable, sets_properly, channel_edit, IsProper, set_by, with_maker_in, PolicyRow, StateValue, Edit, RemoveChannel, any_map, some_found, numbers_of_fitting, there_known, change_asked, is_to_be_temporary, parent_of_new, text_or_empty, new_number, edit_to_make, info_of_new, TreeMessage}
use Rattle.mum_state.specs.Named.{names_there}
use Rattle.mum_rights_laws.proofs.TreeKinds.{IsKind, changes, makes, removes, rules}

pub one_some : {X : Type 0} (one other : X) → Some one ≡ Some other → one ≡ other
one_some one other same = cc

-- the channel has the number under which it is found
pub number_is : (rows : List Row) (id : ChannelId) (row : Row) → row_of rows id ≡ Some row → row.channel.id ≡ id
number_is rows id row found = ap (λ n. record { 0 = n }) (number_found rows id row found)

-- ---- what an edit makes of a row

abbrev pub altered : Edit → Row → Row
altered edit row = option_map_or (λ one. change_row one.channel (with_given one.change) row) (channel_edit edit) row

pub changed_number : (id : ChannelId) (change : Channel → Channel) → ((one : Channel) → (change one).id ≡ one.id) → (row : Row)
    → number (change_row id change row) ≡ number row
changed_number id change keeps row = step (number row == id.0)
  where
    step : (b : Bool) → number (cond b (record row { channel = change row.channel }) row) ≡ number row
    step true = ap (λ (one : ChannelId). one.0) (keeps row.channel)
    step false = refl

other_row : (id : ChannelId) (change : Channel → Channel) (row : Row) → (number row == id.0) ≡ false → change_row id change row ≡ row
other_row id change row off = ap (λ (b : Bool). cond b (record row { channel = change row.channel }) row) off

pub maker_tree : (state : StateValue) (id : ChannelId) (temporary : Bool) (maker : SessionId) → (with_maker_in state id temporary (Some maker)).tree ≡ state.tree
maker_tree state id true maker = refl
maker_tree state id false maker = refl

pub maker_policies : (state : StateValue) (id : ChannelId) (temporary : Bool) (maker : SessionId) → (with_maker_in state id temporary (Some maker)).policies ≡ state.policies
maker_policies state id true maker = refl
maker_policies state id false maker = refl

-- ---- a channel that is made

module _ (before : StateValue) (actor : SessionId) (asked : ChannelState) where
  abbrev pub new : ChannelId
  new = new_number before.tree

  abbrev pub row_made : Row
  row_made = new_row (least_place before.tree.channels) new (parent_of_new asked) (text_or_empty asked.name) (is_to_be_temporary asked)

  abbrev pub describing : Channel → Channel
  describing one = record one { info = info_of_new asked }

  made_rows : (id : ChannelId) → row_of (set_by before (edit_to_make before.tree actor asked)).tree.channels id
      ≡ option_map (change_row new describing) (option_or (row_of before.tree.channels id) (row_of (row_made ∷ []) id))
  made_rows id =
      ap (λ tree. row_of tree.channels id) (maker_tree _ new (is_to_be_temporary asked) actor)
      ∙ row_of-map (change_row new describing) (changed_number new describing (λ one. refl)) (before.tree.channels ++ row_made ∷ []) id
      ∙ ap (option_map (change_row new describing)) (find-append (λ (row : Row). number row == id.0) before.tree.channels (row_made ∷ []))

  pub above : fits before (edit_to_make before.tree actor asked) ≡ true → before.tree.greatest < new.0
  above fit = ltb-true before.tree.greatest new.0 (numbers_of_fitting before (edit_to_make before.tree actor asked) fit)

  -- a channel that is there stays
  made_was : IsProper before → fits before (edit_to_make before.tree actor asked) ≡ true → (id : ChannelId) (was : Row)
      → row_of before.tree.channels id ≡ Some was → row_of (set_by before (edit_to_make before.tree actor asked)).tree.channels id ≡ Some was
  made_was proper fit id was is =
      let high = above fit in
      let known = there_known before.tree id proper.tree (ap is_some is) in
      let at = number_found before.tree.channels id was is in
      let off : (number was == new.0) ≡ false = ne_eqb (number was) new.0 (λ same. absurd (omega (arith, high, known, at, same))) in
      made_rows id ∙ ap (λ o. option_map (change_row new describing) (option_or o (row_of (row_made ∷ []) id))) is
      ∙ ap (λ (row : Row). Some row) (other_row new describing was off)

  -- the one that comes is the one that is asked for
  pub made_is : (id : ChannelId) (now : Row) → row_of before.tree.channels id ≡ None
      → row_of (set_by before (edit_to_make before.tree actor asked)).tree.channels id ≡ Some now → now ≡ record row_made { channel = describing row_made.channel }
  made_is id now none is =
      let only : option_map (change_row new describing) (row_of (row_made ∷ []) id) ≡ Some now =
      sym (ap (λ o. option_map (change_row new describing) (option_or o (row_of (row_made ∷ []) id))) none) ∙ sym (made_rows id) ∙ is in
      step (new.0 == id.0) only
    where
      step : (b : Bool) → option_map (change_row new describing) (cond b (Some row_made) None) ≡ Some now → now ≡ record row_made { channel = describing row_made.channel }
      step true found =
          sym (one_some (change_row new describing row_made) now found)
          ∙ ap (λ (b : Bool). cond b (record row_made { channel = describing row_made.channel }) row_made) (eq-eqb new.0 new.0 refl)
      step false found = cc

  pub made_comes : (id : ChannelId) (now : Row) → row_of before.tree.channels id ≡ None
      → row_of (set_by before (edit_to_make before.tree actor asked)).tree.channels id ≡ Some now
      → (now.channel.parent ≡ parent_of_new asked) × (now.channel.temporary ≡ is_to_be_temporary asked) × ((new.0 == id.0) ≡ true)
  made_comes id now none is =
      let only : option_map (change_row new describing) (row_of (row_made ∷ []) id) ≡ Some now =
      sym (ap (λ o. option_map (change_row new describing) (option_or o (row_of (row_made ∷ []) id))) none) ∙ sym (made_rows id) ∙ is in
      step (new.0 == id.0) only
    where
      same_kind : (b : Bool) → ((cond b (record row_made { channel = describing row_made.channel }) row_made).channel.parent ≡ parent_of_new asked)
          × ((cond b (record row_made { channel = describing row_made.channel }) row_made).channel.temporary ≡ is_to_be_temporary asked)
      same_kind true = (refl, refl)
      same_kind false = (refl, refl)

      step : (b : Bool) → option_map (change_row new describing) (cond b (Some row_made) None) ≡ Some now
          → (now.channel.parent ≡ parent_of_new asked) × (now.channel.temporary ≡ is_to_be_temporary asked) × (b ≡ true)
      step true found =
          let same = one_some (change_row new describing row_made) now found in
          let (parent, temporary) = same_kind (number row_made == new.0) in
          (sym (ap (λ (row : Row). row.channel.parent) same) ∙ parent, sym (ap (λ (row : Row). row.channel.temporary) same) ∙ temporary, refl)
      step false found = cc

-- ---- what is set of a channel that is there, whatever the message is

module _ (before : StateValue) (actor : SessionId) (own : User) (proper : IsProper before) where
  pub altered_as : {message : TreeMessage} {edit : Edit} → IsKind before actor own message edit → fits before edit ≡ true → (id : ChannelId) (was now : Row)
      → row_of before.tree.channels id ≡ Some was → row_of (set_by before edit).tree.channels id ≡ Some now → now ≡ altered edit was
  altered_as (makes asked parent none named may) fit id was now is found = one_some now was (sym found ∙ made_was before actor asked proper fit id was is)
  altered_as (changes asked other named met) fit id was now is found =
      let change = change_asked before.tree other asked in
      one_some now (change_row other (with_given change) was)
      (sym found ∙ row_of-map (change_row other (with_given change)) (changed_number other (with_given change) (λ one. refl)) before.tree.channels id
      ∙ ap (option_map (change_row other (with_given change))) is)
  altered_as (removes asked top named may) fit id was now is found =
      let q : Row → Bool = λ row. not (is_below before.tree.channels top row.channel.id) in
      let (row, there, kept) = there_after q before.tree.channels id proper.tree.rise (ap is_some found) in
      let same : was ≡ row = one_some was row (sym is ∙ there) in
      one_some now row (sym found ∙ kept_row q before.tree.channels id row there kept) ∙ sym same
  altered_as (rules asked other named may) fit id was now is found = one_some now was (sym found ∙ is)

  -- a channel that is not set any more is removed
  pub removed_as : {message : TreeMessage} {edit : Edit} → IsKind before actor own message edit → fits before edit ≡ true → (id : ChannelId) (was : Row)
      → row_of before.tree.channels id ≡ Some was → row_of (set_by before edit).tree.channels id ≡ None
      → (top : ChannelId) × (edit ≡ RemoveChannel top actor) × (is_below before.tree.channels top was.channel.id ≡ true)
  removed_as (makes asked parent none named may) fit id was is gone =
      let no : Some was ≡ None = sym (made_was before actor asked proper fit id was is) ∙ gone in cc
  removed_as (changes asked other named met) fit id was is gone =
      let change = change_asked before.tree other asked in
      let no : Some (change_row other (with_given change) was) ≡ None =
      sym (row_of-map (change_row other (with_given change)) (changed_number other (with_given change) (λ one. refl)) before.tree.channels id
      ∙ ap (option_map (change_row other (with_given change))) is) ∙ gone in cc
  removed_as (removes asked top named may) fit id was is gone = step (is_below before.tree.channels top was.channel.id) refl
    where
      step : (b : Bool) → is_below before.tree.channels top was.channel.id ≡ b
          → (one : ChannelId) × (RemoveChannel top actor ≡ RemoveChannel one actor) × (is_below before.tree.channels one was.channel.id ≡ true)
      step true below = (top, refl, below)
      step false apart =
          let no : Some was ≡ None = sym (kept_row (λ row. not (is_below before.tree.channels top row.channel.id)) before.tree.channels id was is (ap not apart)) ∙ gone in cc
  removed_as (rules asked other named may) fit id was is gone = let no : Some was ≡ None = sym is ∙ gone in cc

-- ---- what fits

pub sets_of_fitting : (state : StateValue) (edit : Edit) → fits state edit ≡ true → sets_properly state edit ≡ true
sets_of_fitting state edit fit =
    let outer = and_parts (names_there state edit && gives_right_numbers state edit && sets_properly state edit) (is_countable state edit) fit in
    (and_parts (names_there state edit && gives_right_numbers state edit) (sets_properly state edit) outer.0).1

-- the root is not removed
pub not_the_root : (state : StateValue) (top : ChannelId) (actor : SessionId) → fits state (RemoveChannel top actor) ≡ true → top.0 ≢ ROOT.0
not_the_root state top actor fit same =
    both_ways (is_root top) (step (is_there state.tree.channels top) (is_root top) (sets_of_fitting state (RemoveChannel top actor) fit)) (eq-eqb top.0 ROOT.0 same)
  where
    step : (there root : Bool) → is_none (cond (not there) (Some NoChannel) (cond root (Some RootFixed) None)) ≡ true → root ≡ false
    step false root none = cc
    step true true none = cc
    step true false none = refl

-- a channel that is there has a policy, and no other has one
pub policy_none : (state : StateValue) (id : ChannelId) → IsProper state → is_some (find (λ (row : PolicyRow). row.channel.0 == id.0) state.policies) ≡ is_there state.tree.channels id
policy_none state id proper =
    some_found (λ (row : PolicyRow). row.channel.0 == id.0) state.policies
    ∙ sym (any_map (λ (one : ChannelId). one.0 == id.0) (λ (row : PolicyRow). row.channel.0 == id.0) (λ (row : PolicyRow). row.channel) (λ row. refl) state.policies)
    ∙ ap (list_any (λ (one : ChannelId). one.0 == id.0)) proper.policies
    ∙ any_map (λ (one : ChannelId). one.0 == id.0) (λ (row : Row). number row == id.0) (λ (row : Row). row.channel.id) (λ row. refl) state.tree.channels
    ∙ sym (some_found (λ (row : Row). number row == id.0) state.tree.channels)
