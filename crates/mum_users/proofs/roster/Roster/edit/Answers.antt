use Rattle.mum_users.proofs.Common.{◌≡◌, ◌+◌, ◌≤◌, ℕ, List, length, ap, arith, refl, set, sym, ◌∙◌, count_by, filter, vec_capacity, vec_len, length-filter, err_from_is_err_and, ListenerPair, MaskRow, changed_user, user_edit_of, IsKept, IsProper, with_pairs, without_pairs, is_of_session}
use Rattle.mum_users.proofs.{Edits.IsProper-edited_here, Edits.edit_absent, Edits.edited_now, ListenerRows.listeners-changed, ListenerRows.listeners-left, Rosters.AreMasks-set, Rosters.IsKept-of, Rosters.IsNumbered-set, Rosters.room_to_move, Silence.changed_user_keeps, roster.Roster.edit.Goals.After-change_row, roster.Roster.edit.Goals.After-set_pairs}
use Rattle.mum_users.proofs.roster.Roster.edit.Goals as goal

pub returns-in_default-clause-outcome : goal.returns-in_default-clause-outcome
returns-in_default-clause-outcome c = (edit_absent _ _ c.args.session (user_edit_of c.args.change.now) _ c.self.view_is c.as_slice.ensures.value c.in_default.ensures, refl)

pub returns-in_err-comment-clause-outcome : goal.returns-in_err-comment-clause-outcome
returns-in_err-comment-clause-outcome c =
    let p = err_from_is_err_and c.from_residual.result c.from_residual.ensures.1 in
    rw (p.1, p.2) (sym c.cause_against_editing.ensures ∙ c.in_default-cause_against_editing.is, refl)

pub returns-in_err-context-clause-outcome : goal.returns-in_err-context-clause-outcome
returns-in_err-context-clause-outcome c =
    let p = err_from_is_err_and c.from_residual-in_err-context.result c.from_residual-in_err-context.ensures.1 in
    rw (p.1, p.2) (sym c.cause_against_editing.ensures ∙ c.in_default-cause_against_editing.is, refl)

pub returns-in_err-before-clause-outcome : goal.returns-in_err-before-clause-outcome
returns-in_err-before-clause-outcome c =
    let p = err_from_is_err_and c.from_residual-in_err-before.result c.from_residual-in_err-before.ensures.1 in
    rw (p.1, p.2) (sym c.cause_against_editing.ensures ∙ c.in_default-cause_against_editing.is, refl)

pub returns-in_err-reserve-clause-outcome : goal.returns-in_err-reserve-clause-outcome
returns-in_err-reserve-clause-outcome c =
    let p = err_from_is_err_and c.from_residual-in_err-reserve.result c.from_residual-in_err-reserve.ensures.1 in
    rw (p.1, p.2) (sym c.cause_against_editing.ensures ∙ c.in_default-cause_against_editing.is, c.self.view_is)

pub returns-in_err-change-clause-outcome : goal.returns-in_err-change-clause-outcome
returns-in_err-change-clause-outcome c =
    let p = err_from_is_err_and c.from_residual-in_err-change.result c.from_residual-in_err-change.ensures.1 in
    rw (p.1, p.2, c.in_err-change.ensures.err) (sym c.cause_against_editing.ensures ∙ c.in_default-cause_against_editing.is, c.self.view_is)

-- what is left is a proper roster
proper : (c : After-change_row) → IsProper (record { sessions = set c.self.inside.users.items c.in-Some.index c.change_row.new.user; listeners = c.change.new.self; targets = c.self.inside.targets.items; last = c.self.inside.last; limit = c.self.inside.limit })
proper c =
    rw c.change_row.ensures (IsProper-edited_here _ _ c.args.session (user_edit_of c.args.change.now) _ c.self.view_is c.as_slice.ensures.value _ c.in-Some.ensures (sym c.cause_against_editing.ensures ∙ c.in_default-cause_against_editing.is) c.self.invariant.proper c.index_mut-user.result.now c.index_mut-user.ensures.value _ c.in_ok-change.ensures.ok)

pub move_slot-requires-clause-room : goal.move_slot-requires-clause-room
move_slot-requires-clause-room c = room_to_move _ _ _ _ _ c.args.session _ _ c.index_mut-user.result.now c.self.invariant c.as_slice.ensures.value c.in-Some.ensures c.index_mut-user.ensures.value

pub set_pairs-requires-clause-rise : goal.set_pairs-requires-clause-rise
set_pairs-requires-clause-rise c =
    rw (c.clear_pairs.ensures.items, c.as_slice-3.ensures.value, c.in_ok-before.ensures.items, c.of_session.ensures, c.in_ok-reserve.ensures.items)
    ((listeners-left _ _ _ _ _ c.args.session _ _ c.index_mut-user.result.now c.self.invariant c.as_slice.ensures.value c.in-Some.ensures c.index_mut-user.ensures.value).rise)

pub set_pairs-requires-clause-room : goal.set_pairs-requires-clause-room
set_pairs-requires-clause-room c =
    let few : count_by (is_of_session c.args.session) c.change.new.self ≤ 32 = (proper (goal.at.set_pairs-requires-clause-room c).After-change_row).few_channels c.args.session in
    let size : length c.of_session-2.result.now ≡ length (filter (is_of_session c.args.session) c.change.new.self) = ap length c.of_session-2.ensures in
    let counted : length (filter (is_of_session c.args.session) c.change.new.self) ≡ count_by (is_of_session c.args.session) c.change.new.self = length-filter (is_of_session c.args.session) c.change.new.self in
    let reserved : vec_len c.reserve.new.self + 32 ≤ vec_capacity c.reserve.new.self = c.in_ok-reserve.ensures.ok in
    omega (arith, few, size, counted, reserved, c.clear_pairs.ensures.len, c.clear_pairs.ensures.room)

-- and one with the slots of its sessions, and with their masks
kept : (c : After-set_pairs) → IsKept (record { sessions = set c.self.inside.users.items c.in-Some.index c.change_row.new.user; listeners = c.change.new.self; targets = c.self.inside.targets.items; last = c.self.inside.last; limit = c.self.inside.limit }) c.self.inside.slots.items c.move_slot.new.rows.items (vec_capacity c.move_slot.new.rows) c.set_pairs.new.rows.items
kept c =
    let slot : ℕ = c.index_mut-user.result.now.slot.0 in
    let own : List ListenerPair → List ListenerPair = filter (is_of_session c.args.session) in
    IsKept-of _ _ _ _ _
    (rw c.change_row.ensures (IsProper-edited_here _ _ c.args.session (user_edit_of c.args.change.now) _ c.self.view_is c.as_slice.ensures.value _ c.in-Some.ensures (sym c.cause_against_editing.ensures ∙ c.in_default-cause_against_editing.is) c.self.invariant.proper c.index_mut-user.result.now c.index_mut-user.ensures.value _ c.in_ok-change.ensures.ok))
    (rw c.change_row.ensures (IsNumbered-set _ _ c.args.session (changed_user (user_edit_of c.args.change.now)) _ _ c.index_mut-user.result.now (changed_user_keeps (user_edit_of c.args.change.now)) c.self.invariant.proper c.self.invariant.numbered c.as_slice.ensures.value c.in-Some.ensures c.index_mut-user.ensures.value))
    (rw (c.move_slot.ensures.items, c.change_row.ensures) (AreMasks-set _ _ _ _ _ c.args.session _ _ c.index_mut-user.result.now c.self.invariant c.as_slice.ensures.value c.in-Some.ensures c.index_mut-user.ensures.value (changed_user (user_edit_of c.args.change.now)) refl))
    (omega (arith, c.self.invariant.enough, c.move_slot.ensures.room))
    (rw c.change_row.ensures (listeners-changed _ _ _ _ _ c.args.session _ _ c.index_mut-user.result.now c.self.invariant c.as_slice.ensures.value c.in-Some.ensures c.index_mut-user.ensures.value (user_edit_of c.args.change.now) _ _ _ c.in_ok-change.ensures.ok
    (c.in_ok-before.ensures.items ∙ c.of_session.ensures)
    (c.set_pairs.ensures
    ∙ ap (λ (ps : List ListenerPair). with_pairs slot ps c.clear_pairs.new.rows.items) c.of_session-2.ensures
    ∙ ap (λ (rs : List MaskRow). with_pairs slot (own c.change.new.self) rs)
    (c.clear_pairs.ensures.items
    ∙ ap (λ (ps : List ListenerPair). without_pairs slot ps c.reserve.new.self.items) c.as_slice-3.ensures.value
    ∙ ap (λ (rs : List MaskRow). without_pairs slot c.in_ok-before.before.items rs) c.in_ok-reserve.ensures.items))))

pub invariant_of-self-2 : goal.invariant_of-self-2
invariant_of-self-2 c = kept (goal.at.invariant_of-self-2 c).After-set_pairs

pub returns-clause-outcome : goal.returns-clause-outcome
returns-clause-outcome c =
    rw c.change_row.ensures (
      sym c.cause_against_editing.ensures ∙ c.in_default-cause_against_editing.is,
      edited_now _ _ c.args.session (user_edit_of c.args.change.now) _ c.self.view_is c.as_slice.ensures.value _ c.in-Some.ensures (sym c.cause_against_editing.ensures ∙ c.in_default-cause_against_editing.is) c.self.invariant.proper c.index_mut-user.result.now c.index_mut-user.ensures.value _ c.in_ok-change.ensures.ok,
    )

pub returns-clause-proper : goal.returns-clause-proper
returns-clause-proper c = (kept (goal.at.returns-clause-proper c).After-set_pairs).proper
