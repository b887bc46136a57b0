use Rattle.mum_users.proofs.Common.{ℕ, ap, ◌≡◌, ◌∙◌, ◌+◌, ◌<◌, None, sym, subst, arith, vec_capacity, IsKept, ROOT, free_slot_from, join_fault, with_slot, RosterState}
use Rattle.mum_users.proofs.{Numbers.IsNumbered-joined, Rosters.IsKept-joined, Rosters.join_parts, Rosters.room_to_join, roster.Roster.join.Goals.After-set_slot}
use Rattle.mum_users.proofs.roster.Roster.join.Goals as goal

-- what is left is a proper roster with the slots of its sessions
kept : (c : After-set_slot) → IsKept (record { sessions = c.insert.new.self.items; listeners = c.self.inside.listeners; targets = c.self.inside.targets.items; last = c.self.inside.last + 1; limit = c.self.inside.limit }) c.push_reserved.new.self.items c.set_slot.new.rows.items (vec_capacity c.set_slot.new.rows) c.self.inside.listener_rows.items
kept c =
    let before : RosterState = record { sessions = c.self.inside.users.items; listeners = c.self.inside.listeners; targets = c.self.inside.targets.items; last = c.self.inside.last; limit = c.self.inside.limit } in
    let allowed = subst (λ (state : RosterState). join_fault state c.args.name.now ≡ None) (sym c.self.view_is) (sym c.cause_against_joining.ensures ∙ c.in_default.is) in
    let parts = join_parts before c.args.name.now allowed in
    let left : c.self.inside.last < 4294967295 = parts.2 in
    rw (c.in_ok-insert.ensures.items, c.in_ok-user.ensures, c.push_reserved.ensures.items, c.reserve.ensures.items, c.free_slot-place.ensures.least, c.as_slice.ensures.value)
    (IsKept-joined before _ c.self.inside.member_rows.items (vec_capacity c.self.inside.member_rows) c.self.inside.listener_rows.items c.args.name.now c.args.account c.args.tokens.now c.self.invariant parts.0 parts.1 parts.2
    _ (IsNumbered-joined _ _ _ _ _ c.self.invariant.proper.given (omega arith) c.self.invariant.numbered) _ _ (c.set_slot.ensures.items ∙ ap (λ (k : ℕ). with_slot ROOT k c.self.inside.member_rows.items) (c.free_slot-place.ensures.least ∙ ap (free_slot_from 0) c.as_slice.ensures.value)) c.set_slot.ensures.room)

pub set_slot-requires-clause-room : goal.set_slot-requires-clause-room
set_slot-requires-clause-room c =
    let before : RosterState = record { sessions = c.self.inside.users.items; listeners = c.self.inside.listeners; targets = c.self.inside.targets.items; last = c.self.inside.last; limit = c.self.inside.limit } in
    let allowed = subst (λ (state : RosterState). join_fault state c.args.name.now ≡ None) (sym c.self.view_is) (sym c.cause_against_joining.ensures ∙ c.in_default.is) in
    let parts = join_parts before c.args.name.now allowed in
    let room = room_to_join before _ c.self.inside.member_rows.items (vec_capacity c.self.inside.member_rows) c.self.inside.listener_rows.items c.args.name.now c.args.account c.args.tokens.now c.self.invariant parts.0 parts.1 parts.2 in
    omega (arith, room)

pub invariant_of-self-2 : goal.invariant_of-self-2
invariant_of-self-2 c = kept (goal.at.invariant_of-self-2 c).After-set_slot

pub returns-clause-proper : goal.returns-clause-proper
returns-clause-proper c = (kept (goal.at.returns-clause-proper c).After-set_slot).proper
