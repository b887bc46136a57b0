-- For whom an edit starts again what was computed of a session.
use Rattle.mum_state.proofs.Common.{◌≡◌, ℕ, ◌<◌, ◌≤◌, ◌==◌, ◌&&◌, ◌||◌, not, Bool, true, false, cond, List, length, get_or, map, refl, sym, ap, ap₂, ◌∙◌, arith, Option, Some, None, unwrap_or, All, count_by, filter, list_any, option_map, and_parts, and_right, both_ways, eq-eqb, eqb-true, false≢true, ltb-true, ne_eqb, not-true, or_from, All-filter, list_any_at, none-some, same_Some, AccountId, ChannelId, SessionId, Slot, ChannelInfo, IsProperTree, fault_of_remove, parent_of, is_below, is_there, number, row_of, TreeState, number_found, may_go, some_row, User, UserEdit, changed_user, free_slot, next_number, next_slot, RosterState, has_number, is_in, joining, targeted, Target, some_from, Edit, AddAccount, EditChannel, Join, Kick, Leave, MakeChannel, RemoveChannel, SetAcl, SetLimits, SetServer, SetTarget, SetTokens, Text, renews, fits, enters, is_slot_of_maker, may_renew, sets_tokens_of, SessionEdit, session_edit, IsProper, moved_up, set_by, StateValue, is_newcomer, is_renewed}
use Rattle.mum_state.proofs.{Closed.found_row_holds, Fitting.fit_parts, Givens.none_is, Gone.parent_stays, Gone.there_without_subtree, Listed.all_at, Members.AreNumbered, Members.and_false, Members.and_true, Members.any_agree, Members.any_inserted, Members.any_mapped, Members.newcomers, Members.nobody_new, Members.none_passes, Members.or_false, OfSession.IsOfSession, OfSession.of_session}

and_swap : (a b : Bool) → (a && b) ≡ (b && a)
and_swap true true = refl
and_swap true false = refl
and_swap false true = refl
and_swap false false = refl

and_turn : (a b c : Bool) → (a && (b && c)) ≡ (b && (a && c))
and_turn true b c = refl
and_turn false b c = sym (and_false b)

same_again : (user : User) → (user.channel.0 == user.channel.0) ≡ true
same_again user = eq-eqb user.channel.0 user.channel.0 refl

-- ---- an edit that changes rows

renews_mapped : (state : StateValue) (edit : Edit) (g : User → User) (test : User → Bool)
    → ((user : User) → (g user).session ≡ user.session) → ((user : User) → (g user).slot ≡ user.slot)
    → AreNumbered state.roster.sessions → (set_by state edit).roster.sessions ≡ map g state.roster.sessions
    → All (λ user. (not (user.channel.0 == (g user).channel.0) || sets_tokens_of edit (g user)) ≡ test user) state.roster.sessions
    → (slot : ℕ) → renews state edit slot ≡ list_any (λ user. (user.slot.0 == slot) && test user) state.roster.sessions
renews_mapped state edit g test session_stays slot_stays numbers set_is tests slot =
    let users : List User = state.roster.sessions in
    ap (list_any (λ user. (user.slot.0 == slot) && is_renewed users edit user)) set_is
    ∙ any_mapped (λ user. (user.slot.0 == slot) && is_renewed users edit user) g users
    ∙ any_agree (λ user. ((g user).slot.0 == slot) && is_renewed users edit (g user)) (λ user. (user.slot.0 == slot) && test user) users
    (λ k d within.
    let user : User = get_or users k d in
    ap (λ (at : Slot). (at.0 == slot) && is_renewed users edit (g user)) (slot_stays user)
    ∙ ap (λ b. (user.slot.0 == slot) && (b || sets_tokens_of edit (g user))) (newcomers g session_stays users numbers k d within)
    ∙ ap (λ b. (user.slot.0 == slot) && b) (tests k d within))

pub renews_tokens : (state : StateValue) (session : SessionId) (tokens : List (List ℕ)) → IsProper state → (slot : ℕ)
    → list_any (λ user. has_number session user && (user.slot.0 == slot)) state.roster.sessions ≡ renews state (SetTokens session tokens) slot
renews_tokens state session tokens proper slot =
    let users : List User = state.roster.sessions in
    any_agree (λ user. has_number session user && (user.slot.0 == slot)) (λ user. (user.slot.0 == slot) && has_number session user) users
    (λ k d within. and_swap (has_number session (get_or users k d)) ((get_or users k d).slot.0 == slot))
    ∙ sym (renews_mapped state (SetTokens session tokens) given (has_number session)
    (λ user. keeps_session user (has_number session user)) (λ user. keeps_slot user (has_number session user)) proper.roster.numbers refl
    (λ k d within. tests (get_or users k d) (has_number session (get_or users k d))) slot)
  where
    given : User → User
    given user = cond (has_number session user) (record user { tokens = tokens }) user

    keeps_session : (user : User) (b : Bool) → (cond b (record user { tokens = tokens }) user).session ≡ user.session
    keeps_session user true = refl
    keeps_session user false = refl

    keeps_slot : (user : User) (b : Bool) → (cond b (record user { tokens = tokens }) user).slot ≡ user.slot
    keeps_slot user true = refl
    keeps_slot user false = refl

    tests : (user : User) (b : Bool) → (not (user.channel.0 == (cond b (record user { tokens = tokens }) user).channel.0) || has_number session (cond b (record user { tokens = tokens }) user)) ≡ has_number session user
    tests user true = ap (λ is. not is || has_number session user) (same_again user)
    tests user false = ap (λ is. not is || has_number session user) (same_again user)

module _ (state : StateValue) (session : SessionId) (change : UserEdit) where
  -- a session enters the channel that is given, if it is in another
  entered : (user : User) (b : Bool) → has_number session user ≡ b
      → (not (user.channel.0 == (cond b (changed_user change user) user).channel.0) || false) ≡ (b && enters change.channel user)
  entered user true is = by change.channel
    where
      by : (channel : Option ChannelId) → (not (user.channel.0 == (unwrap_or channel user.channel).0) || false) ≡ enters channel user
      by None = ap (λ is. not is || false) (same_again user)
      by (Some id) = or_false (not (user.channel.0 == id.0))
  entered user false is = ap (λ is. not is || false) (same_again user)

  keeps_session : (user : User) (b : Bool) → (cond b (changed_user change user) user).session ≡ user.session
  keeps_session user true = refl
  keeps_session user false = refl

  keeps_slot : (user : User) (b : Bool) → (cond b (changed_user change user) user).slot ≡ user.slot
  keeps_slot user true = refl
  keeps_slot user false = refl

  pub renews_changed : (edit : Edit) → (set_by state edit).roster.sessions ≡ map (λ user. cond (has_number session user) (changed_user change user) user) state.roster.sessions
      → ((user : User) → sets_tokens_of edit user ≡ false) → IsProper state → (slot : ℕ)
      → list_any (λ user. has_number session user && ((user.slot.0 == slot) && enters change.channel user)) state.roster.sessions ≡ renews state edit slot
  renews_changed edit set_is no_tokens proper slot =
      let users : List User = state.roster.sessions in
      let g : User → User = λ user. cond (has_number session user) (changed_user change user) user in
      any_agree (λ user. has_number session user && ((user.slot.0 == slot) && enters change.channel user)) (λ user. (user.slot.0 == slot) && (has_number session user && enters change.channel user)) users
      (λ k d within. and_turn (has_number session (get_or users k d)) ((get_or users k d).slot.0 == slot) (enters change.channel (get_or users k d)))
      ∙ sym (renews_mapped state edit g (λ user. has_number session user && enters change.channel user)
      (λ user. keeps_session user (has_number session user)) (λ user. keeps_slot user (has_number session user)) proper.roster.numbers set_is
      (λ k d within.
      let user : User = get_or users k d in
      ap (λ b. not (user.channel.0 == (g user).channel.0) || b) (no_tokens (g user)) ∙ entered user (has_number session user) refl) slot)

pub renews_user : (state : StateValue) (edit : Edit) (session : SessionId) (channel : Option ChannelId)
    → option_map (λ user. user.session) (session_edit edit) ≡ Some session → option_map (λ user. user.change.channel) (session_edit edit) ≡ Some channel
    → IsProper state → (slot : ℕ)
    → list_any (λ user. has_number session user && ((user.slot.0 == slot) && enters channel user)) state.roster.sessions ≡ renews state edit slot
renews_user state edit session channel named into proper slot = step (session_edit edit) refl named into
  where
    step : (given : Option SessionEdit) → session_edit edit ≡ given → option_map (λ user. user.session) given ≡ Some session
        → option_map (λ user. user.change.channel) given ≡ Some channel
        → list_any (λ user. has_number session user && ((user.slot.0 == slot) && enters channel user)) state.roster.sessions ≡ renews state edit slot
    step None is at to = absurd (none-some _ at)
    step (Some user) is at to =
        let are : IsOfSession state edit user = of_session state edit user is in
        ap₂ (λ (one : SessionId) (other : Option ChannelId). list_any (λ user. has_number one user && ((user.slot.0 == slot) && enters other user)) state.roster.sessions)
        (sym (same_Some _ _ at)) (sym (same_Some _ _ to))
        ∙ renews_changed state user.session user.change edit (ap (λ (after : StateValue). after.roster.sessions) are.sets) are.no_tokens proper slot

-- ---- a maker that enters its channel

-- a channel that is there has a number that was given
pub there_known : (tree : TreeState) (id : ChannelId) → IsProperTree tree → is_there tree.channels id ≡ true → id.0 ≤ tree.greatest
there_known tree id proper there =
    let (row, found) = some_row (row_of tree.channels id) there in
    let known : number row ≤ tree.greatest = found_row_holds (λ one. number one ≤ tree.greatest) tree.channels id row proper.known found in
    let is : number row ≡ id.0 = number_found tree.channels id row found in
    omega arith

-- nobody is in a channel with a new number
pub not_in_new : (state : StateValue) (id : ChannelId) → IsProper state → state.tree.greatest < id.0 → All (λ user. (user.channel.0 == id.0) ≡ false) state.roster.sessions
not_in_new state id proper above k d within =
    let user : User = get_or state.roster.sessions k d in
    let there : is_there state.tree.channels user.channel ≡ true = all_at (λ one. is_there state.tree.channels one.channel) state.roster.sessions proper.inside k d within in
    let known : user.channel.0 ≤ state.tree.greatest = there_known state.tree user.channel proper.tree there in
    ne_eqb user.channel.0 id.0 (λ same. omega arith)

maker_moves : (state : StateValue) (edit : Edit) (maker : SessionId) (id : ChannelId) → IsProper state → state.tree.greatest < id.0
    → (set_by state edit).roster.sessions ≡ map (λ user. cond (has_number maker user) (record user { channel = id }) user) state.roster.sessions
    → ((user : User) → sets_tokens_of edit user ≡ false) → (slot : ℕ)
    → list_any (λ user. has_number maker user && (user.slot.0 == slot)) state.roster.sessions ≡ renews state edit slot
maker_moves state edit maker id proper above set_is no_tokens slot =
    let users : List User = state.roster.sessions in
    any_agree (λ user. has_number maker user && (user.slot.0 == slot)) (λ user. (user.slot.0 == slot) && has_number maker user) users
    (λ k d within. and_swap (has_number maker (get_or users k d)) ((get_or users k d).slot.0 == slot))
    ∙ sym (renews_mapped state edit (λ user. cond (has_number maker user) (record user { channel = id }) user) (has_number maker)
    (λ user. keeps_session user (has_number maker user)) (λ user. keeps_slot user (has_number maker user)) proper.roster.numbers set_is
    (λ k d within.
    let user : User = get_or users k d in
    ap (λ b. not (user.channel.0 == (cond (has_number maker user) (record user { channel = id }) user).channel.0) || b) (no_tokens (cond (has_number maker user) (record user { channel = id }) user))
    ∙ tests user (not_in_new state id proper above k d within) (has_number maker user)) slot)
  where
    keeps_session : (user : User) (b : Bool) → (cond b (record user { channel = id }) user).session ≡ user.session
    keeps_session user true = refl
    keeps_session user false = refl

    keeps_slot : (user : User) (b : Bool) → (cond b (record user { channel = id }) user).slot ≡ user.slot
    keeps_slot user true = refl
    keeps_slot user false = refl

    tests : (user : User) → (user.channel.0 == id.0) ≡ false → (b : Bool) → (not (user.channel.0 == (cond b (record user { channel = id }) user).channel.0) || false) ≡ b
    tests user other true = ap (λ is. not is || false) other
    tests user other false = ap (λ is. not is || false) (same_again user)

-- ---- members that are moved up

-- nobody is below a channel who is in its parent
pub parent_off : (tree : TreeState) (id : ChannelId) → IsProperTree tree → is_there tree.channels id ≡ true → (id.0 == 0) ≡ false → is_below tree.channels id (parent_of tree id) ≡ false
parent_off tree id proper there under =
    let stays : (is_there tree.channels (parent_of tree id) && not (is_below tree.channels id (parent_of tree id))) ≡ true =
    sym (there_without_subtree tree id (parent_of tree id)) ∙ parent_stays tree id proper there under in
    not-true (is_below tree.channels id (parent_of tree id)) (and_parts (is_there tree.channels (parent_of tree id)) (not (is_below tree.channels id (parent_of tree id))) stays).1

pub renews_removed : (state : StateValue) (id : ChannelId) (actor : SessionId) → IsProper state → fits state (RemoveChannel id actor) ≡ true → (slot : ℕ)
    → list_any (λ user. (user.slot.0 == slot) && is_below state.tree.channels id user.channel) state.roster.sessions ≡ renews state (RemoveChannel id actor) slot
renews_removed state id actor proper fit slot =
    let users : List User = state.roster.sessions in
    let may = may_go state.tree id (none_is (fault_of_remove state.tree id) (fit_parts state (RemoveChannel id actor) fit).sets) in
    let off = parent_off state.tree id proper.tree may.0 may.1 in
    sym (renews_mapped state (RemoveChannel id actor) (moved_up state.tree id) (λ user. is_below state.tree.channels id user.channel)
    (λ user. keeps_session user (is_below state.tree.channels id user.channel)) (λ user. keeps_slot user (is_below state.tree.channels id user.channel)) proper.roster.numbers refl
    (λ k d within. tests off (get_or users k d) (is_below state.tree.channels id (get_or users k d).channel) refl) slot)
  where
    up : User → User
    up user = record user { channel = parent_of state.tree id }

    keeps_session : (user : User) (b : Bool) → (cond b (record user { channel = parent_of state.tree id }) user).session ≡ user.session
    keeps_session user true = refl
    keeps_session user false = refl

    keeps_slot : (user : User) (b : Bool) → (cond b (record user { channel = parent_of state.tree id }) user).slot ≡ user.slot
    keeps_slot user true = refl
    keeps_slot user false = refl

    apart : is_below state.tree.channels id (parent_of state.tree id) ≡ false → (user : User) → is_below state.tree.channels id user.channel ≡ true → (user.channel.0 == (parent_of state.tree id).0) ≡ false
    apart off user on = step (user.channel.0 == (parent_of state.tree id).0) refl
      where
        step : (b : Bool) → (user.channel.0 == (parent_of state.tree id).0) ≡ b → b ≡ false
        step true is =
            let same : user.channel ≡ parent_of state.tree id = ap (λ n. record { 0 = n }) (eqb-true user.channel.0 (parent_of state.tree id).0 is) in
            absurd (both_ways (is_below state.tree.channels id (parent_of state.tree id)) off (ap (is_below state.tree.channels id) (sym same) ∙ on))
        step false is = refl

    tests : is_below state.tree.channels id (parent_of state.tree id) ≡ false → (user : User) (b : Bool) → is_below state.tree.channels id user.channel ≡ b
        → (not (user.channel.0 == (cond b (record user { channel = parent_of state.tree id }) user).channel.0) || false) ≡ b
    tests off user true on = ap (λ is. not is || false) (apart off user on)
    tests off user false on = ap (λ is. not is || false) (same_again user)

-- ---- nobody

-- rows that are as they were
nobody_renewed : (state : StateValue) (edit : Edit) (users : List User) → All (λ user. is_newcomer state.roster.sessions user ≡ false) users → (set_by state edit).roster.sessions ≡ users
    → ((user : User) → sets_tokens_of edit user ≡ false) → (slot : ℕ) → renews state edit slot ≡ false
nobody_renewed state edit users old set_is no_tokens slot =
    ap (list_any (λ user. (user.slot.0 == slot) && is_renewed state.roster.sessions edit user)) set_is
    ∙ none_passes (λ user. (user.slot.0 == slot) && is_renewed state.roster.sessions edit user) users
    (λ k d within.
    let user : User = get_or users k d in
    and_right (user.slot.0 == slot) (is_renewed state.roster.sessions edit user)
    (or_from (is_newcomer state.roster.sessions user) (sets_tokens_of edit user) (old k d within) (no_tokens user)))

all_old : (state : StateValue) → IsProper state → All (λ user. is_newcomer state.roster.sessions user ≡ false) state.roster.sessions
all_old state proper = nobody_new state.roster.sessions proper.roster.numbers

leavers : (state : StateValue) (edit : Edit) (session : SessionId) → IsProper state → (set_by state edit).roster.sessions ≡ filter (λ user. not (has_number session user)) state.roster.sessions
    → ((user : User) → sets_tokens_of edit user ≡ false) → (slot : ℕ) → renews state edit slot ≡ false
leavers state edit session proper set_is no_tokens slot =
    nobody_renewed state edit (filter (λ user. not (has_number session user)) state.roster.sessions)
    (All-filter (λ user. not (has_number session user)) (λ user. is_newcomer state.roster.sessions user ≡ false) state.roster.sessions (all_old state proper)) set_is no_tokens slot

pub targeted_sessions : (roster : RosterState) (session : SessionId) (id : ℕ) (target : Target) → (targeted roster session id target).sessions ≡ roster.sessions
targeted_sessions roster session id target = either (length target.items == 0) _ _ refl refl
  where
    either : (b : Bool) (one other : RosterState) → one.sessions ≡ roster.sessions → other.sessions ≡ roster.sessions → (cond b one other).sessions ≡ roster.sessions
    either true one other same also = same
    either false one other same also = also

pub renews_maker : (state : StateValue) (id parent : ChannelId) (name : List ℕ) (temporary : Bool) (info : ChannelInfo) (maker : Option SessionId) → IsProper state → fits state (MakeChannel id parent name temporary info maker) ≡ true → (slot : ℕ)
    → is_slot_of_maker temporary maker state.roster.sessions slot ≡ renews state (MakeChannel id parent name temporary info maker) slot
renews_maker state id parent name temporary info None proper fit slot =
    sym (nobody_renewed state (MakeChannel id parent name temporary info None) state.roster.sessions (all_old state proper) refl (λ user. refl) slot)
renews_maker state id parent name false info (Some maker) proper fit slot =
    sym (nobody_renewed state (MakeChannel id parent name false info (Some maker)) state.roster.sessions (all_old state proper) refl (λ user. refl) slot)
renews_maker state id parent name true info (Some maker) proper fit slot =
    maker_moves state (MakeChannel id parent name true info (Some maker)) maker id proper
    (ltb-true state.tree.greatest id.0 (fit_parts state (MakeChannel id parent name true info (Some maker)) fit).numbers) refl (λ user. refl) slot

pub renews_nobody : (state : StateValue) (edit : Edit) → IsProper state → may_renew edit ≡ false → (slot : ℕ) → false ≡ renews state edit slot
renews_nobody state (SetServer welcome bandwidth password) proper none slot = sym (nobody_renewed state (SetServer welcome bandwidth password) state.roster.sessions (all_old state proper) refl (λ user. refl) slot)
renews_nobody state (SetLimits sessions channels) proper none slot = sym (nobody_renewed state (SetLimits sessions channels) state.roster.sessions (all_old state proper) refl (λ user. refl) slot)
renews_nobody state (AddAccount account name digest) proper none slot = sym (nobody_renewed state (AddAccount account name digest) state.roster.sessions (all_old state proper) refl (λ user. refl) slot)
renews_nobody state (Leave session) proper none slot = sym (leavers state (Leave session) session proper refl (λ user. refl) slot)
renews_nobody state (Kick session actor reason ban) proper none slot = sym (leavers state (Kick session actor reason ban) session proper refl (λ user. refl) slot)
renews_nobody state (EditChannel id actor name parent description position max_users links_add links_remove) proper none slot =
    sym (nobody_renewed state (EditChannel id actor name parent description position max_users links_add links_remove) state.roster.sessions (all_old state proper) refl (λ user. refl) slot)
renews_nobody state (SetTarget session id target) proper none slot =
    sym (nobody_renewed state (SetTarget session id target) state.roster.sessions (all_old state proper) (targeted_sessions state.roster session id target) (λ user. refl) slot)
renews_nobody state (SetAcl channel actor policy) proper none slot = sym (nobody_renewed state (SetAcl channel actor policy) state.roster.sessions (all_old state proper) refl (λ user. refl) slot)
renews_nobody state (Text actor sessions channels trees message) proper none slot = sym (nobody_renewed state (Text actor sessions channels trees message) state.roster.sessions (all_old state proper) refl (λ user. refl) slot)
renews_nobody state edit proper none slot = absurd (false≢true (sym none))

-- ---- a session that joins

pub renews_joined : (state : StateValue) (session : SessionId) (slot : Slot) (name : List ℕ) (account : Option AccountId) (tokens : List (List ℕ)) → IsProper state → fits state (Join session slot name account tokens) ≡ true → (at : ℕ)
    → (slot.0 == at) ≡ renews state (Join session slot name account tokens) at
renews_joined state session slot name account tokens proper fit at =
    let users : List User = state.roster.sessions in
    let new : User = joining (next_number state.roster) (next_slot state.roster) name account tokens in
    let P : User → Bool = λ user. (user.slot.0 == at) && is_renewed users (Join session slot name account tokens) user in
    let right = and_parts (session.0 == (next_number state.roster).0) (slot.0 == (next_slot state.roster).0) (fit_parts state (Join session slot name account tokens) fit).numbers in
    let same : slot.0 ≡ free_slot state.roster = eqb-true slot.0 (free_slot state.roster) right.1 in
    let nobody : count_by (has_number (next_number state.roster)) users ≡ 0 = proper.roster.given (next_number state.roster) (omega arith) in
    let is_new : is_newcomer users new ≡ true = ap not (none_passes (λ was. has_number new.session was && is_in new.channel was) users (unused users nobody new.channel)) in
    let others : list_any P users ≡ false = none_passes P users (λ k d within.
    let user : User = get_or users k d in
    and_right (user.slot.0 == at) (is_renewed users (Join session slot name account tokens) user) (or_from (is_newcomer users user) false (all_old state proper k d within) refl)) in
    sym (any_inserted P users (free_slot state.roster) new
    ∙ ap (λ b. P new || b) others ∙ or_false (P new)
    ∙ ap (λ b. (free_slot state.roster == at) && (b || false)) is_new
    ∙ and_true (free_slot state.roster == at)
    ∙ ap (λ n. n == at) (sym same))
  where
    unused : (users : List User) → count_by (has_number (next_number state.roster)) users ≡ 0 → (channel : ChannelId) → All (λ was. (has_number (next_number state.roster) was && is_in channel was) ≡ false) users
    unused users none channel k d within = step (has_number (next_number state.roster) (get_or users k d)) refl
      where
        step : (b : Bool) → has_number (next_number state.roster) (get_or users k d) ≡ b → (b && is_in channel (get_or users k d)) ≡ false
        step true is = absurd (omega (arith, none, some_at k d within is))
          where
            some_at : (k : ℕ) (d : User) → k < length users → has_number (next_number state.roster) (get_or users k d) ≡ true → 0 < count_by (has_number (next_number state.roster)) users
            some_at k d within is = some_from (has_number (next_number state.roster)) users (list_any_at (has_number (next_number state.roster)) users k d within is)
        step false is = refl
