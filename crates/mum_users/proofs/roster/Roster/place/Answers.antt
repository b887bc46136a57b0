use Rattle.mum_users.proofs.Common.{refl, set, vec_capacity, IsKept}
use Rattle.mum_users.proofs.{Rosters.IsKept-moved, Rosters.found, Rosters.not_found, Rosters.room_to_move, roster.Roster.place.Goals.After-move_slot}
use Rattle.mum_users.proofs.roster.Roster.place.Goals as goal

pub returns-in-None-clause-outcome : goal.returns-in-None-clause-outcome
returns-in-None-clause-outcome c = (not_found _ _ c.args.session _ c.self.view_is c.as_slice.ensures.value c.in-None.ensures, refl)

-- what is left is a proper roster with the slots of its sessions
kept : (c : After-move_slot) → IsKept (record { sessions = set c.self.inside.users.items c.in-Some.index (record c.index_mut-user.result.now { channel = c.args.channel }); listeners = c.self.inside.listeners; targets = c.self.inside.targets.items; last = c.self.inside.last; limit = c.self.inside.limit }) c.self.inside.slots.items c.move_slot.new.rows.items (vec_capacity c.move_slot.new.rows) c.self.inside.listener_rows.items
kept c =
    IsKept-moved _ _ _ _ _ c.args.session _ _ c.index_mut-user.result.now c.self.invariant c.as_slice.ensures.value c.in-Some.ensures c.index_mut-user.ensures.value
    (λ user. record user { channel = c.args.channel }) _ _ (record { session = λ _. refl; slot = λ _. refl; name = λ _. refl; silence = λ _ e. e }) c.move_slot.ensures.items c.move_slot.ensures.room

pub move_slot-requires-clause-room : goal.move_slot-requires-clause-room
move_slot-requires-clause-room c =
    room_to_move _ _ _ _ _ c.args.session _ _ c.index_mut-user.result.now c.self.invariant c.as_slice.ensures.value c.in-Some.ensures c.index_mut-user.ensures.value

pub invariant_of-self : goal.invariant_of-self
invariant_of-self c = kept (goal.at.invariant_of-self c).After-move_slot

pub returns-in-Some-clause-outcome : goal.returns-in-Some-clause-outcome
returns-in-Some-clause-outcome c =
    found _ _ c.args.session (λ user. record user { channel = c.args.channel }) _ _ c.index_mut-user.result.now
    c.self.view_is c.self.invariant.proper c.as_slice.ensures.value c.in-Some.ensures c.index_mut-user.ensures.value

pub returns-in-Some-clause-proper : goal.returns-in-Some-clause-proper
returns-in-Some-clause-proper c = (kept (goal.at.returns-in-Some-clause-proper c).After-move_slot).proper
