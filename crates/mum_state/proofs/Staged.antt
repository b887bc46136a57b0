-- What each stage of an edit needs of the state before it.
use Rattle.mum_state.proofs.Common.{◌≡◌, ℕ, ◌+◌, ◌≤◌, ◌^◌, ◌==◌, ◌&&◌, ◌||◌, Bool, true, false, cond, List, [], ◌∷◌, length, refl, sym, ap, subst, ◌∙◌, arith, Option, Some, None, Result, Ok, Err, IfSome, IsTrue, OnErr, OnOk, if◌then◌else◌, All, list_all, list_any, option_map_or, and_from, and_parts, ChannelId, SessionId, fault_of_remove, is_there, TreeState, User, SLOTS, changed_user, IsProperRoster, has_number, Edit, Renewed, applied, renews, has_member, sets_policy, fits, cleared_session, counted, is_left_empty, left_by, with_left_closed, named_account, named_channels, named_sessions, SessionEdit, session_edit, IsProper, heard_again, is_renewed_slot, set_by, Counts, StateValue, has_account, heard_anew, with_clearing}
use Rattle.mum_state.proofs.{Applying.applied_is, Applying.counts_set, Clearing.by_clearing, Fitting.fit_parts, Keeping.fit_proper, Leftover.left_alone, Leftover.left_may_go, Listed.any_stays, OfSession.IsOfSession, OfSession.of_session}

-- the sessions that a fitting edit names are here
pub sessions_named : (state : StateValue) (edit : Edit) → fits state edit ≡ true → list_all (λ session. list_any (has_number session) state.roster.sessions) (named_sessions edit) ≡ true
sessions_named state edit fit =
    let a : Bool = list_all (λ session. list_any (has_number session) state.roster.sessions) (named_sessions edit) in
    let b : Bool = list_all (is_there state.tree.channels) (named_channels edit) in
    (and_parts a b (and_parts (a && b) (option_map_or (has_account state) (named_account edit) true) (fit_parts state edit fit).named).0).0

first_of : {X : Type 0} (p : X → Bool) (x : X) (xs : List X) → list_all p (x ∷ xs) ≡ true → p x ≡ true
first_of p x xs all = (and_parts (p x) (list_all p xs) all).0

-- who is heard again is in a channel that is there
pub hear_ready : (state : StateValue) (edit : Edit) → IsProper state → fits state edit ≡ true → IsTrue (list_all (λ user. is_there (set_by state edit).tree.channels user.channel) (set_by state edit).roster.sessions)
hear_ready state edit proper fit = (fit_proper state edit proper fit).0.inside

either_session : (change : User → User) (user : User) (session : SessionId) (b : Bool) → ((one : User) → (change one).session ≡ one.session) → has_number session (cond b (change user) user) ≡ has_number session user
either_session change user session true keeps = ap (λ (one : SessionId). one.0 == session.0) (keeps user)
either_session change user session false keeps = refl

-- whoever may speak is here
pub clear_ready : (state : StateValue) (edit : Edit) (renewed : Renewed) (all : Bool) → fits state edit ≡ true
    → IsTrue (list_all (λ session. list_any (has_number session) (heard_again renewed all (set_by state edit)).roster.sessions) (cleared_session edit))
clear_ready state edit renewed all fit = step (session_edit edit) refl
  where
    cleared : (user : SessionEdit) → session_edit edit ≡ Some user → (clears : Bool)
        → IsTrue (list_all (λ session. list_any (has_number session) (heard_again renewed all (set_by state edit)).roster.sessions) (if clears then user.session ∷ [] else []))
    cleared user is true =
        let are : IsOfSession state edit user = of_session state edit user is in
        let here : list_any (has_number user.session) state.roster.sessions ≡ true =
        first_of (λ one. list_any (has_number one) state.roster.sessions) user.session (user.actor ∷ [])
        (subst (λ (sessions : List SessionId). list_all (λ session. list_any (has_number session) state.roster.sessions) sessions ≡ true) are.names (sessions_named state edit fit)) in
        and_from (list_any (has_number user.session) (heard_again renewed all (set_by state edit)).roster.sessions) true
        (any_stays (has_number user.session) (λ one. cond (is_renewed_slot renewed one.slot.0 || all) (heard_anew (set_by state edit) one) one)
        (λ one. either_session (heard_anew (set_by state edit)) one user.session (is_renewed_slot renewed one.slot.0 || all) (λ other. refl)) (set_by state edit).roster.sessions
        ∙ ap (λ (after : StateValue). list_any (has_number user.session) after.roster.sessions) are.sets
        ∙ any_stays (has_number user.session) (λ one. cond (has_number user.session one) (changed_user user.change one) one)
        (λ one. either_session (changed_user user.change) one user.session (has_number user.session one) (λ other. refl)) state.roster.sessions
        ∙ here) refl
    cleared user is false = refl

    step : (given : Option SessionEdit) → session_edit edit ≡ given
        → IsTrue (list_all (λ session. list_any (has_number session) (heard_again renewed all (set_by state edit)).roster.sessions)
        (option_map_or (λ user. if user.clear_suppress then user.session ∷ [] else []) given []))
    step None is = refl
    step (Some user) is = cleared user is user.clear_suppress

clearing_tree : (edit : Edit) (state : StateValue) → (with_clearing edit state).tree ≡ state.tree
clearing_tree edit state = by_clearing (λ after. after.tree ≡ state.tree) edit state refl (λ session. refl)

clearing_counts : (edit : Edit) (state : StateValue) → (with_clearing edit state).counts ≡ state.counts
clearing_counts edit state = by_clearing (λ after. after.counts ≡ state.counts) edit state refl (λ session. refl)

-- a channel that may be empty may go
pub close_ready : (state : StateValue) (edit : Edit) (renewed : Renewed) (all : Bool) → IsProper state → fits state edit ≡ true
    → IfSome (left_by state edit) (λ id. fault_of_remove (with_clearing edit (heard_again renewed all (set_by state edit))).tree id ≡ None)
close_ready state edit renewed all proper fit = by (left_by state edit) refl
  where
    by : (left : Option ChannelId) → left_by state edit ≡ left → IfSome left (λ id. fault_of_remove (with_clearing edit (heard_again renewed all (set_by state edit))).tree id ≡ None)
    by None is = tt
    by (Some id) is =
        ap (λ (tree : TreeState). fault_of_remove tree id) (clearing_tree edit (heard_again renewed all (set_by state edit)))
        ∙ left_may_go (set_by state edit) id (fit_proper state edit proper fit).0 ((left_alone state edit proper).temporary id is)

closed_counts : (left : Option ChannelId) (state : StateValue) → (with_left_closed left state).counts ≡ state.counts
closed_counts None state = refl
closed_counts (Some id) state = either (has_member state.roster.sessions id) _ _ refl refl
  where
    either : (b : Bool) (one other : StateValue) → one.counts ≡ state.counts → other.counts ≡ state.counts → (cond b one other).counts ≡ state.counts
    either true one other same also = same
    either false one other same also = also

-- no stage before the last changes the counts
pub stages_count : (state : StateValue) (edit : Edit) (renewed : Renewed) (all : Bool) (left : Option ChannelId) → (with_left_closed left (with_clearing edit (heard_again renewed all (set_by state edit)))).counts ≡ state.counts
stages_count state edit renewed all left =
    closed_counts left (with_clearing edit (heard_again renewed all (set_by state edit)))
    ∙ clearing_counts edit (heard_again renewed all (set_by state edit))
    ∙ counts_set state edit

-- the counts of a proper state have room
pub record HaveRoom (counts : Counts) : Type 0 where
  pub revision : counts.revision ≤ 2 ^ 63
  pub policy : counts.policy ≤ 2 ^ 63
  pub routing : counts.routing ≤ 2 ^ 63
  pub slots : All (λ count. count ≤ 2 ^ 63) counts.slots
  pub whole : length counts.slots ≡ SLOTS

pub have_room : (state : StateValue) → IsProper state → HaveRoom state.counts
have_room state proper =
    let counts = proper.counts in
    let revision : state.counts.revision ≤ 2 ^ 62 = counts.revision in
    let policy : state.counts.policy ≤ state.counts.revision + 2 ^ 62 = counts.policy in
    let routing : state.counts.routing ≤ state.counts.revision + 2 ^ 62 = counts.routing in
    record {
      revision = omega arith;
      policy = omega arith;
      routing = omega arith;
      slots = λ k d within. let each = counts.each k d within in omega arith;
      whole = counts.one_each;
    }

-- ---- the same, of the states as the code has them

module _ (state : StateValue) (edit : Edit) (proper : IsProper state) (fit : fits state edit ≡ true) (renewed : Renewed) (first : StateValue) (set_is : first ≡ set_by state edit) where
  pub hear_at : IsTrue (list_all (λ user. is_there first.tree.channels user.channel) first.roster.sessions)
  hear_at = subst (λ (s : StateValue). IsTrue (list_all (λ user. is_there s.tree.channels user.channel) s.roster.sessions)) (sym set_is) (hear_ready state edit proper fit)

  pub hear_roster : IsProperRoster first.roster
  hear_roster = subst (λ (s : StateValue). IsProperRoster s.roster) (sym set_is) ((fit_proper state edit proper fit).0.roster)

  module _ (second : StateValue) (heard_is : second ≡ heard_again renewed (sets_policy edit) first) where
    heard_from : second ≡ heard_again renewed (sets_policy edit) (set_by state edit)
    heard_from = heard_is ∙ ap (heard_again renewed (sets_policy edit)) set_is

    pub clear_at : IsTrue (list_all (λ session. list_any (has_number session) second.roster.sessions) (cleared_session edit))
    clear_at = subst (λ (s : StateValue). IsTrue (list_all (λ session. list_any (has_number session) s.roster.sessions) (cleared_session edit))) (sym heard_from) (clear_ready state edit renewed (sets_policy edit) fit)

    module _ (third : StateValue) (cleared_is : third ≡ with_clearing edit second) (left : Option ChannelId) (left_is : left ≡ left_by state edit) where
      cleared_from : third ≡ with_clearing edit (heard_again renewed (sets_policy edit) (set_by state edit))
      cleared_from = cleared_is ∙ ap (with_clearing edit) heard_from

      pub close_at : IfSome left (λ id. fault_of_remove third.tree id ≡ None)
      close_at =
          subst (λ (l : Option ChannelId). IfSome l (λ id. fault_of_remove third.tree id ≡ None)) (sym left_is)
          (subst (λ (s : StateValue). IfSome (left_by state edit) (λ id. fault_of_remove s.tree id ≡ None)) (sym cleared_from) (close_ready state edit renewed (sets_policy edit) proper fit))

      module _ (fourth : StateValue) (closed_is : fourth ≡ with_left_closed left third) where
        counts_from : fourth.counts ≡ state.counts
        counts_from =
            ap (λ (s : StateValue). s.counts) closed_is
            ∙ ap (λ (s : StateValue). (with_left_closed left s).counts) cleared_from
            ∙ stages_count state edit renewed (sets_policy edit) left

        pub count_at : HaveRoom fourth.counts
        count_at = subst HaveRoom (sym counts_from) (have_room state proper)

        pub stages_are : (closed : Bool) (fifth : StateValue) → closed ≡ is_left_empty left third → fifth ≡ record fourth { counts = counted edit renewed closed fourth.counts }
            → ((slot : ℕ) → is_renewed_slot renewed slot ≡ renews state edit slot) → fifth ≡ applied state edit
        stages_are closed fifth empty_is counted_is same =
            counted_is
            ∙ ap (λ (s : StateValue). record s { counts = counted edit renewed closed s.counts }) closed_is
            ∙ ap (λ (b : Bool). record (with_left_closed left third) { counts = counted edit renewed b (with_left_closed left third).counts }) empty_is
            ∙ ap (λ (l : Option ChannelId). record (with_left_closed l third) { counts = counted edit renewed (is_left_empty l third) (with_left_closed l third).counts }) left_is
            ∙ ap (λ (s : StateValue). record (with_left_closed (left_by state edit) s) { counts = counted edit renewed (is_left_empty (left_by state edit) s) (with_left_closed (left_by state edit) s).counts }) cleared_from
            ∙ applied_is state edit proper fit renewed same

-- an edit that was made, or was not, leaves a proper state
pub proper_after : {A E : Type 0} (state now : StateValue) (edit : Edit) (r : Result A E) → IsProper state → fits state edit ≡ true → OnOk r (now ≡ applied state edit) → OnErr r (now ≡ state) → IsProper now
proper_after state now edit (Ok a) proper fit ok err = subst IsProper (sym ok) (fit_proper state edit proper fit).1
proper_after state now edit (Err e) proper fit ok err = subst IsProper (sym err) proper
