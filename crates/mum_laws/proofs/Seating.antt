-- Who is there after a verdict has a connection with its seat, where all who were there before had one.
use Rattle.mum_laws.proofs.Common.{◌≡◌, ℕ, ◌+◌, ◌-◌, ◌<◌, Bool, true, false, cond, List, map, Option, Some, None, sym, ap, ◌∙◌, arith, inl, inr, not, if◌then◌else◌, option_or, cases_eq, AccountId, SessionId, Slot, User, changed_user, free_slot, next_number, next_slot, RosterState, has_number, joining, parent_of, is_below, Edit, Join, Kick, Leave, MakeChannel, RemoveChannel, SetTarget, SetTokens, SetUser, Verdict, Accepted, user_parts, set_by, StateValue, applied_descends, Each, each_filter, each_insert, each_map, each_so, Seat, CoreState, current, seat_of}
use Rattle.mum_laws.proofs.{Requesting.AllSeated, Requesting.state_after, Resting.AreSeated, Resting.HasSeat, Resting.seat_as, Resting.seats_of}

-- ---- an edit that lets nobody in leaves those who were there, or some of them

module _ (P : SessionId → Slot → Type 0) where
  abbrev Q : User → Type 0
  Q user = P user.session user.slot

  one_touched : (b : Bool) (was now : User) → Q was → Q now → Q (cond b now was)
  one_touched true was now old new = new
  one_touched false was now old new = old

  touched : (test : User → Bool) (change : User → User) → ((user : User) → Q user → Q (change user)) → (users : List User) → Each Q users
      → Each Q (map (λ user. cond (test user) (change user) user) users)
  touched test change same users all =
      each_map Q Q (λ user. cond (test user) (change user) user) (λ user holds. one_touched (test user) user (change user) holds (same user holds)) users all

  either_roster : (is : Bool) (one other : RosterState) → Each Q one.sessions → Each Q other.sessions → Each Q (if is then one else other).sessions
  either_roster true one other all also = all
  either_roster false one other all also = also

  set_keeps : (state : StateValue) (edit : Edit) → seat_of (Accepted edit) ≡ None → Each Q state.roster.sessions → Each Q (set_by state edit).roster.sessions
  set_keeps state (Join session slot name account tokens) none all = cc
  set_keeps state (Leave session) none all = each_filter Q (λ user. not (has_number session user)) state.roster.sessions all
  set_keeps state (Kick session actor reason ban) none all = each_filter Q (λ user. not (has_number session user)) state.roster.sessions all
  set_keeps state (MakeChannel id parent name temporary info None) none all = all
  set_keeps state (MakeChannel id parent name true info (Some maker)) none all =
      touched (has_number maker) (λ user. record user { channel = id }) (λ user holds. holds) state.roster.sessions all
  set_keeps state (MakeChannel id parent name false info (Some maker)) none all = all
  set_keeps state (RemoveChannel id actor) none all =
      touched (λ user. is_below state.tree.channels id user.channel) (λ user. record user { channel = parent_of state.tree id }) (λ user holds. holds) state.roster.sessions all
  set_keeps state (SetUser session actor channel mute deaf clear_suppress priority self_mute self_deaf recording comment context listen unlisten) none all =
      touched (has_number session) (changed_user (user_parts channel mute deaf priority self_mute self_deaf recording comment context listen unlisten)) (λ user holds. holds) state.roster.sessions all
  set_keeps state (SetTokens session tokens) none all =
      touched (has_number session) (λ user. record user { tokens = tokens }) (λ user holds. holds) state.roster.sessions all
  set_keeps state (SetTarget session id target) none all = either_roster _ _ _ all all
  set_keeps state others none all = all

  pub after_keeps : (state : StateValue) (v : Verdict) → seat_of v ≡ None → Each Q state.roster.sessions → Each Q (state_after state v).roster.sessions
  after_keeps state (Accepted edit) none all = applied_descends Q (λ user on holds. holds) state edit (set_keeps state edit none all)
  after_keeps state others none all = all

-- ---- a verdict that gives no seat

moved : (n : ℕ) (one other : ℕ → Option Seat) → ((i : ℕ) → other i ≡ one i) → (users : List User) → AreSeated n one users → AreSeated n other users
moved n one other same users all =
    each_so (λ user. HasSeat n one user.session user.slot) (λ user. HasSeat n other user.session user.slot)
    (λ user has. record { least = has.least; most = has.most; seat = same (user.session.0 - 1) ∙ has.seat }) users all

pub seats_kept : (n i : ℕ) (core : CoreState) (v : Verdict) → seat_of v ≡ None → AreSeated n (seats_of core) (current core).roster.sessions → AllSeated n i core v
seats_kept n i core v none all seats after =
    let same : (j : ℕ) → seats j ≡ seats_of core j = λ j. elim (cases_eq j i) [
      | inl here ↦ ap seats here ∙ after.own ∙ ap (λ (seat : Option Seat). option_or seat (seats_of core i)) none ∙ sym (ap (seats_of core) here)
      | inr other ↦ after.other j other
    ] in
    let before : AreSeated n seats (current core).roster.sessions = moved n (seats_of core) seats same (current core).roster.sessions all in
    (before, after_keeps (λ session slot. HasSeat n seats session slot) (current core) v none before)

-- ---- a login

none_there : (seat : Seat) (o : Option Seat) → o ≡ None → o ≡ Some seat → ⊥
none_there seat o none some = cc

pub seats_given : (n i : ℕ) (core : CoreState) (name : List ℕ) (account : Option AccountId) (tokens : List (List ℕ)) → i < n → seats_of core i ≡ None → (current core).roster.last ≡ i
    → AreSeated n (seats_of core) (current core).roster.sessions
    → AllSeated n i core (Accepted (Join (next_number (current core).roster) (next_slot (current core).roster) name account tokens))
seats_given n i core name account tokens within none last all seats after =
    let state : StateValue = current core in
    let joins : Edit = Join (next_number state.roster) (next_slot state.roster) name account tokens in
    let new : User = joining (next_number state.roster) (next_slot state.roster) name account tokens in
    let Q : User → Type 0 = λ user. HasSeat n seats user.session user.slot in
    let kept : (user : User) → HasSeat n (seats_of core) user.session user.slot → HasSeat n seats user.session user.slot = λ user has.
    record {
      least = has.least;
      most = has.most;
      seat = after.other (user.session.0 - 1) (λ here. none_there (seat_as user.session user.slot) (seats_of core i) none (sym (ap (seats_of core) here) ∙ has.seat)) ∙ has.seat;
    } in
    let before : AreSeated n seats state.roster.sessions = each_so (λ user. HasSeat n (seats_of core) user.session user.slot) Q kept state.roster.sessions all in
    let place : state.roster.last + 1 - 1 ≡ i = omega (arith, last) in
    let own : HasSeat n seats (next_number state.roster) (next_slot state.roster) =
    record { least = omega arith; most = omega (arith, last, within); seat = ap seats place ∙ after.own } in
    (before, applied_descends Q (λ user on holds. holds) state joins (each_insert Q state.roster.sessions (free_slot state.roster) new before own))
