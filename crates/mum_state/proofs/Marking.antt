-- Marks and counts of slots, one after the other; and sessions that are heard again.
use Rattle.mum_state.proofs.Common.{◌≡◌, ℕ, zero, suc, ◌+◌, ◌<◌, ◌≤◌, ◌==◌, ◌&&◌, ◌||◌, ◌++◌, not, Bool, true, false, cond, List, [], ◌∷◌, length, length-set, get_or, set, take, drop, map, replicate, refl, sym, ap, subst, ◌∙◌, arith, add-one, zero-add, Option, Some, None, is_none, ℤ, ◌⊎◌, inl, inr, All, count_by, list_all, list_any, and_parts, cases_eq, eq-eqb, eqb-true, false≢true, ltb-true, ne_eqb, not-true, get_or-set_other, get_or-set_same, list_any_more, nat_lt, SLOTS, AccountId, ChannelId, SessionId, Slot, ChannelInfo, Change, fault_of_edit, fault_of_add, fault_of_remove, is_there, User, UserEdit, edit_fault, SlotsRise, ACCOUNT_LIMIT, AddAccount, MakeChannel, RemoveChannel, Nobody, One, channels_of, speaks_where_in, raised_slots, raised_where, fits, holds_of_given, channel_parts, user_parts, may_speak, is_name, is_short, is_text, absent_fault, session_at, suppressed, NoSession, has_number, has_slot, is_context, count_by-cons, heard_again, is_renewed_slot, StateValue, has_account, is_named, is_numbered, heard_anew}
use Rattle.mum_users.specs.Proper.{IsProper}
use Rattle.mum_state.proofs.{Each.each_both, Each.each_find, Each.each_passes, Each.each_so, Each.found_passes, Each.map_each, Each.map_stays, Each.none_found, Each.only_found, Each.only_one, Each.passing_any, Fitting.fit_parts, Givens.none_is, Members.or_false}

-- ---- counts

-- where it holds of no slot of these, nothing is raised
none_raised : (t : ℕ → Bool) (start : ℕ) (counts : List ℕ) → ((i : ℕ) → i < length counts → t (start + i) ≡ false) → raised_slots t start counts ≡ counts
none_raised t start [] none = refl
none_raised t start (count ∷ counts) none =
    let here : start + 0 ≡ start = omega arith in
    let next : (i : ℕ) → start + 1 + i ≡ start + suc i = λ i. omega arith in
    ap (λ (b : Bool). raised_where b count ∷ raised_slots t (start + 1) counts) (ap t (sym here) ∙ none 0 (omega arith))
    ∙ ap (λ (later : List ℕ). count ∷ later) (none_raised t (start + 1) counts (λ i within. ap t (next i) ∙ none (suc i) (omega arith)))

pub nobody_raised : (counts : List ℕ) → counts ≡ raised_slots (is_renewed_slot Nobody) 0 counts
nobody_raised counts = sym (none_raised (λ at. false) 0 counts (λ i within. refl))

-- one count alone is raised
raised_at : (start : ℕ) (counts : List ℕ) (i n : ℕ) → i < length counts → n ≡ get_or counts i n → set counts i (n + 1) ≡ raised_slots (λ at. start + i == at) start counts
raised_at start [] i n within is = absurd (omega arith)
raised_at start (count ∷ counts) zero n within is =
    let here : start + 0 ≡ start = omega arith in
    ap (λ (m : ℕ). (m + 1) ∷ counts) is
    ∙ sym (ap (λ (b : Bool). raised_where b count ∷ raised_slots (λ at. start + 0 == at) (start + 1) counts) (eq-eqb (start + 0) start here)
    ∙ ap (λ (later : List ℕ). (count + 1) ∷ later) (none_raised (λ at. start + 0 == at) (start + 1) counts (λ j below. ne_eqb (start + 0) (start + 1 + j) (λ same. omega (arith, same)))))
raised_at start (count ∷ counts) (suc i) n within is =
    let next : start + 1 + i ≡ start + suc i = omega arith in
    ap (λ (later : List ℕ). count ∷ later) (raised_at (start + 1) counts i n (omega arith) is
    ∙ ap (λ (k : ℕ). raised_slots (λ at. k == at) (start + 1) counts) next)
    ∙ sym (ap (λ (b : Bool). raised_where b count ∷ raised_slots (λ at. start + suc i == at) (start + 1) counts) (ne_eqb (start + suc i) start (λ same. omega (arith, same))))

pub one_raised : (slot : Slot) (counts : List ℕ) (n : ℕ) → slot.0 < length counts → n ≡ get_or counts slot.0 n → set counts slot.0 (n + 1) ≡ raised_slots (is_renewed_slot (One slot)) 0 counts
one_raised slot counts n within is = raised_at 0 counts slot.0 n within is ∙ ap (λ (k : ℕ). raised_slots (λ at. k == at) 0 counts) (zero-add slot.0)

pub one_beyond : (slot : Slot) (counts : List ℕ) → length counts ≤ slot.0 → counts ≡ raised_slots (is_renewed_slot (One slot)) 0 counts
one_beyond slot counts beyond =
    sym (none_raised (λ at. slot.0 == at) 0 counts (λ i within. ne_eqb slot.0 (0 + i) (λ same. omega (arith, same))))

-- one more count is raised
pub set-raised : (t : ℕ → Bool) (start : ℕ) (xs : List ℕ) (i n : ℕ) → i < length xs → n ≡ get_or (raised_slots t start (take i xs) ++ drop i xs) i n
    → set (raised_slots t start (take i xs) ++ drop i xs) i (raised_where (t (start + i)) n) ≡ raised_slots t start (take (i + 1) xs) ++ drop (i + 1) xs
set-raised t start [] i n within is = absurd (omega arith)
set-raised t start (x ∷ xs) zero n within is =
    let here : start + 0 ≡ start = omega arith in
    ap (λ (m : ℕ). raised_where (t (start + 0)) m ∷ xs) is ∙ ap (λ (at : ℕ). raised_where (t at) x ∷ xs) here
set-raised t start (x ∷ xs) (suc i) n within is =
    let there : start + suc i ≡ start + 1 + i = omega arith in
    ap (λ (at : ℕ). raised_where (t start) x ∷ set (raised_slots t (start + 1) (take i xs) ++ drop i xs) i (raised_where (t at) n)) there
    ∙ rw (add-one (suc i)) (ap (λ (ys : List ℕ). raised_where (t start) x ∷ ys) (rw (add-one i) at (set-raised t (start + 1) xs i n (omega arith) is)))

-- ---- marks

pub none_marked : (n slot : ℕ) → get_or (replicate n false) slot false ≡ false
none_marked zero slot = refl
none_marked (suc n) zero = refl
none_marked (suc n) (suc slot) = none_marked n slot

slots_low : (limit low : ℕ) (users : List User) → SlotsRise limit low users → low ≤ limit
slots_low limit low [] rise = rise
slots_low limit low (user ∷ users) rise =
    let above : user.slot.0 + 1 ≤ limit = slots_low limit (user.slot.0 + 1) users rise.1 in
    let here : low ≤ user.slot.0 = rise.0 in
    omega arith

pub slots_within : (limit low : ℕ) (users : List User) → SlotsRise limit low users → All (λ user. user.slot.0 < limit) users
slots_within limit low [] rise k d within = absurd (omega arith)
slots_within limit low (user ∷ users) rise zero d within =
    let above : user.slot.0 + 1 ≤ limit = slots_low limit (user.slot.0 + 1) users rise.1 in
    omega arith
slots_within limit low (user ∷ users) rise (suc k) d within = slots_within limit (user.slot.0 + 1) users rise.1 k d (omega arith)

pub marked_more : (p : User → Bool) (users : List User) (i : ℕ) (user : User) (marks after : List Bool) (is_marked : Bool) → i < length users → user ≡ get_or users i user → user.slot.0 < length marks
    → length marks ≡ SLOTS → ((slot : ℕ) → get_or marks slot false ≡ list_any (λ (one : User). (one.slot.0 == slot) && p one) (take i users)) → is_marked ≡ p user
    → after ≡ set marks user.slot.0 (get_or marks user.slot.0 false || is_marked)
    → (length after ≡ SLOTS) × ((slot : ℕ) → get_or after slot false ≡ list_any (λ (one : User). (one.slot.0 == slot) && p one) (take (i + 1) users))
marked_more p users i user marks after is_marked within is room whole so_far marked after_is =
    (ap length after_is ∙ simp length-set whole, λ slot. by slot (cases_eq slot user.slot.0))
  where
    more : (slot : ℕ) → list_any (λ (one : User). (one.slot.0 == slot) && p one) (take (i + 1) users) ≡ (list_any (λ (one : User). (one.slot.0 == slot) && p one) (take i users) || ((user.slot.0 == slot) && p user))
    more slot =
        list_any_more (λ (one : User). (one.slot.0 == slot) && p one) users i user within
        ∙ ap (λ (one : User). list_any (λ (other : User). (other.slot.0 == slot) && p other) (take i users) || ((one.slot.0 == slot) && p one)) (sym is)

    by : (slot : ℕ) → (slot ≡ user.slot.0) ⊎ (slot ≡ user.slot.0 → ⊥) → get_or after slot false ≡ list_any (λ (one : User). (one.slot.0 == slot) && p one) (take (i + 1) users)
    by slot (inl same) =
        ap (λ (ms : List Bool). get_or ms slot false) after_is
        ∙ ap (λ (n : ℕ). get_or (set marks user.slot.0 (get_or marks user.slot.0 false || is_marked)) n false) same
        ∙ get_or-set_same marks user.slot.0 (get_or marks user.slot.0 false || is_marked) false room
        ∙ ap (λ b. get_or marks user.slot.0 false || b) marked
        ∙ ap (λ b. b || p user) (so_far user.slot.0)
        ∙ ap (λ (n : ℕ). list_any (λ (one : User). (one.slot.0 == n) && p one) (take i users) || p user) (sym same)
        ∙ ap (λ b. list_any (λ (one : User). (one.slot.0 == slot) && p one) (take i users) || (b && p user)) (sym (eq-eqb user.slot.0 slot (sym same)))
        ∙ sym (more slot)
    by slot (inr apart) =
        ap (λ (ms : List Bool). get_or ms slot false) after_is
        ∙ get_or-set_other marks user.slot.0 slot (get_or marks user.slot.0 false || is_marked) false apart
        ∙ so_far slot
        ∙ sym (or_false (list_any (λ (one : User). (one.slot.0 == slot) && p one) (take i users)))
        ∙ ap (λ b. list_any (λ (one : User). (one.slot.0 == slot) && p one) (take i users) || (b && p user)) (sym (ne_eqb user.slot.0 slot (λ same. apart (sym same))))
        ∙ sym (more slot)

-- ---- who is heard

heard_as_were : (users : List User) (state : StateValue) → users ≡ map (λ user. cond (false || false) (heard_anew state user) user) users
heard_as_were [] state = refl
heard_as_were (user ∷ users) state = ap (λ (later : List User). user ∷ later) (heard_as_were users state)

pub heard_nobody : (state : StateValue) → state ≡ heard_again Nobody false state
heard_nobody state = ap (λ (users : List User). record state { roster = record state.roster { sessions = users } }) (heard_as_were state.roster.sessions state)

-- ---- one session that is heard again

slot_below : (limit low slot : ℕ) (users : List User) → SlotsRise limit low users → slot < low → count_by (λ user. user.slot.0 == slot) users ≡ 0
slot_below limit low slot [] rise below = refl
slot_below limit low slot (user ∷ users) rise below =
    let from : low ≤ user.slot.0 = rise.0 in
    let apart : (user.slot.0 == slot) ≡ false = ne_eqb user.slot.0 slot (λ same. omega (arith, same)) in
    omega (
      arith,
      count_by-cons (λ (one : User). one.slot.0 == slot) user users,
      ap (λ (b : Bool). cond {A = ℕ} b 1 0) apart,
      slot_below limit (user.slot.0 + 1) slot users rise.1 (omega arith),
    )

-- no two sessions are in one slot
slot_once : (limit low slot : ℕ) (users : List User) → SlotsRise limit low users → count_by (λ user. user.slot.0 == slot) users ≤ 1
slot_once limit low slot [] rise = omega arith
slot_once limit low slot (user ∷ users) rise = step (user.slot.0 == slot) refl (slot_once limit (user.slot.0 + 1) slot users rise.1)
  where
    step : (b : Bool) → (user.slot.0 == slot) ≡ b → count_by (λ (one : User). one.slot.0 == slot) users ≤ 1 → count_by (λ one. one.slot.0 == slot) (user ∷ users) ≤ 1
    step true is later =
        omega (
          arith,
          count_by-cons (λ (one : User). one.slot.0 == slot) user users,
          ap (λ (b : Bool). cond {A = ℕ} b 1 0) is,
          slot_below limit (user.slot.0 + 1) slot users rise.1 (let same = eqb-true _ _ is in omega arith),
        )
    step false is later =
        omega (arith, count_by-cons (λ (one : User). one.slot.0 == slot) user users, ap (λ (b : Bool). cond {A = ℕ} b 1 0) is, later)

module _ (slot : Slot) (state : StateValue) where
  pub heard_absent : session_at state.roster slot ≡ None → state ≡ heard_again (One slot) false state
  heard_absent none =
      ap (λ (users : List User). record state { roster = record state.roster { sessions = users } })
      (sym (map_stays (λ user. cond ((slot.0 == user.slot.0) || false) (heard_anew state user) user) state.roster.sessions
      (each_so (λ (user : User). has_slot slot user ≡ false) (λ user. cond ((slot.0 == user.slot.0) || false) (heard_anew state user) user ≡ user)
      (λ user apart. ap (λ (b : Bool). cond (b || false) (heard_anew state user) user) (turned slot.0 user.slot.0 apart)) state.roster.sessions
      (none_found (has_slot slot) state.roster.sessions none))))
    where
      turned : (a b : ℕ) → (b == a) ≡ false → (a == b) ≡ false
      turned a b apart = ne_eqb a b (λ same. false≢true (sym apart ∙ eq-eqb b a (sym same)))

  module _ (user : User) (speaks : Bool) (proper : IsProper state.roster) (inside : list_all (λ one. is_there state.tree.channels one.channel) state.roster.sessions ≡ true)
      (found : session_at state.roster slot ≡ Some user) (speaks_is : speaks ≡ speaks_where_in (channels_of state) user) where
    abbrev as_told : User → User
    as_told one = cond (has_number user.session one) (record one { suppress = not speaks }) one

    abbrev as_heard : User → User
    as_heard one = cond ((slot.0 == one.slot.0) || false) (heard_anew state one) one

    in_slot : user.slot.0 ≡ slot.0
    in_slot = eqb-true _ _ (found_passes (has_slot slot) state.roster.sessions user found)

    there : is_there state.tree.channels user.channel ≡ true
    there =
        (each_find (λ (one : User). is_there state.tree.channels one.channel ≡ true) (has_slot slot) state.roster.sessions user
        (each_passes (λ (one : User). is_there state.tree.channels one.channel) state.roster.sessions inside) found).0

    own : as_told user ≡ as_heard user
    own =
        ap (λ (b : Bool). cond b (record user { suppress = not speaks }) user) (eq-eqb user.session.0 user.session.0 refl)
        ∙ ap (λ (b : Bool). record user { suppress = not b }) (speaks_is ∙ ap (λ (b : Bool). cond b (may_speak state user) false) there)
        ∙ sym (ap (λ (b : Bool). cond (b || false) (heard_anew state user) user) (eq-eqb slot.0 user.slot.0 (sym in_slot)))

    each_own : (one : User) → (has_number user.session one ≡ true → one ≡ user) → (has_slot slot one ≡ true → one ≡ user) → as_told one ≡ as_heard one
    each_own one numbered seated = by (has_number user.session one) (slot.0 == one.slot.0) refl refl
      where
        by : (a b : Bool) → has_number user.session one ≡ a → (slot.0 == one.slot.0) ≡ b → as_told one ≡ as_heard one
        by true b is at = subst (λ (x : User). as_told x ≡ as_heard x) (sym (numbered is)) own
        by false true is at =
            let same : one ≡ user = seated (eq-eqb one.slot.0 slot.0 (sym (eqb-true _ _ at))) in
            absurd (false≢true (sym is ∙ eq-eqb one.session.0 user.session.0 (ap (λ (x : User). x.session.0) same)))
        by false false is at =
            ap (λ (b : Bool). cond b (record one { suppress = not speaks }) one) is
            ∙ sym (ap (λ (b : Bool). cond (b || false) (heard_anew state one) one) at)

    -- it is here
    pub heard_here : absent_fault state.roster user.session ≡ None
    heard_here =
        ap (λ (b : Bool). cond b None (Some NoSession))
        (passing_any (has_slot slot) (has_number user.session) state.roster.sessions user (eq-eqb user.session.0 user.session.0 refl) found)

    pub heard_one : record state { roster = suppressed state.roster user.session (not speaks) } ≡ heard_again (One slot) false state
    heard_one =
        ap (λ (users : List User). record state { roster = record state.roster { sessions = users } })
        (map_each as_told as_heard state.roster.sessions
        (each_both (λ one. has_number user.session one ≡ true → one ≡ user) (λ one. has_slot slot one ≡ true → one ≡ user) (λ one. as_told one ≡ as_heard one) each_own
        state.roster.sessions
        (only_one (has_slot slot) (has_number user.session) state.roster.sessions user (proper.numbers user.session) (eq-eqb user.session.0 user.session.0 refl) found)
        (only_found (has_slot slot) state.roster.sessions user (slot_once state.roster.limit 0 slot.0 state.roster.sessions proper.slots) found)))

-- ---- what fits

-- of an account that is added, of a channel that is made, and of one that is removed
pub account_fits : (state : StateValue) (account : AccountId) (name digest : List ℕ) → fits state (AddAccount account name digest) ≡ true
    → (list_any (is_named name) state.accounts ≡ false) × (list_any (is_numbered account) state.accounts ≡ false)
account_fits state account name digest fit =
    let numbered = has_account state account in
    let named = list_any (is_named name) state.accounts in
    let short = and_parts (not numbered && not named && is_short name) (nat_lt (length state.accounts) ACCOUNT_LIMIT) (fit_parts state (AddAccount account name digest) fit).sets in
    let new = and_parts (not numbered) (not named) (and_parts (not numbered && not named) (is_short name) short.0).0 in
    (not-true named new.1, not-true numbered new.0)

pub making_fits : (state : StateValue) (id parent : ChannelId) (name : List ℕ) (temporary : Bool) (info : ChannelInfo) (maker : Option SessionId)
    → fits state (MakeChannel id parent name temporary info maker) ≡ true
    → (state.tree.greatest < id.0) × (fault_of_add state.tree id parent name ≡ None)
making_fits state id parent name temporary info maker fit =
    let parts = fit_parts state (MakeChannel id parent name temporary info maker) fit in
    let fault = fault_of_add state.tree id parent name in
    let front = and_parts (is_none fault && is_name name) (is_text info.description) parts.sets in
    (ltb-true state.tree.greatest id.0 parts.numbers, none_is fault (and_parts (is_none fault) (is_name name) front.0).0)

pub removal_fits : (state : StateValue) (id : ChannelId) (actor : SessionId) → fits state (RemoveChannel id actor) ≡ true → fault_of_remove state.tree id ≡ None
removal_fits state id actor fit = none_is (fault_of_remove state.tree id) (fit_parts state (RemoveChannel id actor) fit).sets
