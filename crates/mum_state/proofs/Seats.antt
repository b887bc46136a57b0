-- While a session is there it keeps its slot, and a channel keeps its place.
use Rattle.mum_state.proofs.Common.{◌≡◌, ℕ, ◌<◌, ◌≤◌, ◌==◌, true, List, [], ◌∷◌, sym, ap, ◌∙◌, arith, Some, IsTrue, inl, inr, count_by, cases_lt, eq-eqb, eqb-true, same_Some, ChannelId, SessionId, Slot, Row, number, row_of, row_of_at, User, session_of, has_number, Edit, all_fit, led_to, applied, HasPlace, IsInSlot, SeatsStand, IsProper, StateValue}
use Rattle.mum_state.proofs.{Descent.Descends, Descent.applied_descends, Descent.set_descends, Each.Each, Each.each_find, Each.each_from_all, Each.each_so, Each.found_counts, Each.only_found, Each.shown, Numbers.last_rises, RowsStay.IsOfRows, RowsStay.rows_stay}

-- ---- sessions

-- the session of this number, if it is this one, is in this slot
abbrev pub IsSeated : ℕ → Slot → User → Type 0
IsSeated session slot user = user.session.0 ≡ session → user.slot ≡ slot

seat_descends : (edit : Edit) (last session : ℕ) (slot : Slot) → session ≤ last → Descends edit last (IsSeated session slot) (IsSeated session slot)
seat_descends edit last session slot known = record {
  stays = λ was now same seated is. same.slot ∙ seated (ap (λ (s : SessionId). s.0) (sym same.session) ∙ is);
  joins = λ now above is. absurd (omega (arith, known, above, is));
}

pub seat_stays : (state : StateValue) (edit : Edit) (session : ℕ) (slot : Slot) → session ≤ state.roster.last → Each (IsSeated session slot) state.roster.sessions
    → Each (IsSeated session slot) (applied state edit).roster.sessions
seat_stays state edit session slot known all =
    applied_descends (IsSeated session slot) (λ user on seated. seated) state edit
    (set_descends state (IsSeated session slot) (IsSeated session slot) all edit (seat_descends edit state.roster.last session slot known))

seats_stay : (state : StateValue) (edits : List Edit) (session : ℕ) (slot : Slot) → session ≤ state.roster.last → Each (IsSeated session slot) state.roster.sessions
    → Each (IsSeated session slot) (led_to state edits).roster.sessions
seats_stay state [] session slot known all = all
seats_stay state (edit ∷ edits) session slot known all =
    let rises : state.roster.last ≤ (applied state edit).roster.last = last_rises state edit in
    seats_stay (applied state edit) edits session slot (omega (arith, known, rises)) (seat_stays state edit session slot known all)

-- a session that is there has a number that was given
pub session_known : (state : StateValue) (session : SessionId) (user : User) → IsProper state → session_of state.roster session ≡ Some user → session.0 ≤ state.roster.last
session_known state session user proper found =
    let some : 0 < count_by (has_number session) state.roster.sessions = found_counts (has_number session) state.roster.sessions user found in
    elim (cases_lt state.roster.last session.0) [
      | inl above ↦ absurd (omega (arith, some, proper.roster.given session above))
      | inr known ↦ known
    ]

-- and nobody else has it
pub session_alone : (state : StateValue) (session : SessionId) (user : User) → IsProper state → session_of state.roster session ≡ Some user
    → Each (λ other. has_number session other ≡ true → other ≡ user) state.roster.sessions
session_alone state session user proper found = only_found (has_number session) state.roster.sessions user (proper.roster.numbers session) found

slots_stand : (state : StateValue) (edits : List Edit) (session : SessionId) (slot later : Slot) → IsProper state
    → IsInSlot state session slot → IsInSlot (led_to state edits) session later → slot ≡ later
slots_stand state edits session slot later proper first last =
    let (user, found, here) = shown (λ (user : User). user.slot) (session_of state.roster session) slot first in
    let (now, again, there) = shown (λ (user : User). user.slot) (session_of (led_to state edits).roster session) later last in
    let seated : Each (IsSeated session.0 slot) state.roster.sessions =
    each_so (λ other. has_number session other ≡ true → other ≡ user) (IsSeated session.0 slot)
    (λ other alone is. ap (λ (one : User). one.slot) (alone (eq-eqb _ _ is)) ∙ here)
    state.roster.sessions (session_alone state session user proper found) in
    let stays = seats_stay state edits session.0 slot (session_known state session user proper found) seated in
    let (kept, passes) = each_find (IsSeated session.0 slot) (has_number session) (led_to state edits).roster.sessions now stays again in
    sym (kept (eqb-true _ _ passes)) ∙ there

-- ---- channels

-- the channel of this number, if it is this one, has this place
abbrev IsPlaced : ℕ → ℕ → Row → Type 0
IsPlaced channel place row = number row ≡ channel → row.place ≡ place

placed_keeps : (channel place : ℕ) → IsOfRows (IsPlaced channel place)
placed_keeps channel place row change same placed is = placed (ap (λ (id : ChannelId). id.0) (sym same) ∙ is)

places_stay : (channel place : ℕ) (state : StateValue) (edits : List Edit) → IsTrue (all_fit state edits) → channel ≤ state.tree.greatest
    → Each (IsPlaced channel place) state.tree.channels → Each (IsPlaced channel place) (led_to state edits).tree.channels
places_stay channel place = rows_stay (IsPlaced channel place) (placed_keeps channel place) channel (λ row above is. absurd (omega (arith, above, is)))

places_stand : (state : StateValue) (edits : List Edit) (channel : ChannelId) (place later : ℕ) → IsProper state → IsTrue (all_fit state edits)
    → HasPlace state channel place → HasPlace (led_to state edits) channel later → place ≡ later
places_stand state edits channel place later proper fit first last =
    let (row, found, here) = shown (λ (row : Row). row.place) (row_of state.tree.channels channel) place first in
    let (now, again, there) = shown (λ (row : Row). row.place) (row_of (led_to state edits).tree.channels channel) later last in
    let P : Row → Type 0 = IsPlaced channel.0 place in
    let placed : Each P state.tree.channels = each_from_all P state.tree.channels
    (λ k d within is. ap (λ (one : Row). one.place) (same_Some _ _ (sym (row_of_at state.tree.channels k d channel proper.tree.rise within is) ∙ found)) ∙ here) in
    let given : Each (λ (row : Row). number row ≤ state.tree.greatest) state.tree.channels = each_from_all _ state.tree.channels proper.tree.known in
    let (known, is_it) = each_find (λ (row : Row). number row ≤ state.tree.greatest) (λ row. number row == channel.0) state.tree.channels row given found in
    let same : number row ≡ channel.0 = eqb-true _ _ is_it in
    let (kept, passes) = each_find P (λ row. number row == channel.0) (led_to state edits).tree.channels now
    (places_stay channel.0 place state edits fit (omega (arith, known, same)) placed) again in
    sym (kept (eqb-true _ _ passes)) ∙ there

pub seats_stand_lem : SeatsStand
seats_stand_lem state edits proper fit =
    (λ session slot later. slots_stand state edits session slot later proper, λ channel place later. places_stand state edits channel place later proper fit)
