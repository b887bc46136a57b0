use Rattle.mum_users.proofs.Common.{not, refl, arith, is_slot_of}
use Rattle.mum_users.proofs.{Numbers.IsNumbered-filter, ListenerRows.listeners-left, Rosters.AreMasks-left, Rosters.IsKept-of, Rosters.IsProper-left, Rosters.here_from, Rosters.not_found}
use Rattle.mum_users.proofs.roster.Roster.leave.Goals as goal

pub returns-in_default-clause-outcome : goal.returns-in_default-clause-outcome
returns-in_default-clause-outcome c = (not_found _ _ c.args.session _ c.self.view_is c.as_slice.ensures.value c.in_default.ensures, refl)

pub invariant_of-self : goal.invariant_of-self
invariant_of-self c = IsKept-of _ _ _ _ _
    (rw (c.take_user.ensures, c.leave_all.ensures, c.take_targets.ensures) (IsProper-left _ c.args.session c.self.invariant.proper))
    (rw (c.take_user.ensures, c.take_slot.ensures) (IsNumbered-filter (λ own. not (is_slot_of c.args.session own)) _ _ c.self.invariant.numbered))
    (rw (c.take_user.ensures, c.clear_slot.ensures.items) (AreMasks-left _ _ _ _ _ c.args.session _ _ c.index-user.result.now c.self.invariant c.as_slice.ensures.value c.in-Some.ensures c.index-user.ensures))
    (omega (arith, c.self.invariant.enough, c.clear_slot.ensures.room))
    (rw (c.take_user.ensures, c.leave_all.ensures, c.clear_pairs.ensures.items, c.of_session.ensures) (listeners-left _ _ _ _ _ c.args.session _ _ c.index-user.result.now c.self.invariant c.as_slice.ensures.value c.in-Some.ensures c.index-user.ensures))

pub returns-clause-outcome : goal.returns-clause-outcome
returns-clause-outcome c = (here_from _ _ c.args.session _ _ c.self.view_is c.as_slice.ensures.value c.in-Some.ensures, rw (c.take_user.ensures, c.leave_all.ensures, c.take_targets.ensures, ← c.self.view_is) refl)

pub returns-clause-proper : goal.returns-clause-proper
returns-clause-proper c =
    rw (c.take_user.ensures, c.leave_all.ensures, c.take_targets.ensures) (IsProper-left _ c.args.session c.self.invariant.proper)
