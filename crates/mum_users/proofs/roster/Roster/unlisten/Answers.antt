use Rattle.mum_users.proofs.Common.{◌&&◌, [], ◌∷◌, not, refl, is_among, is_of_session}
use Rattle.mum_users.proofs.{ListenerRows.listeners-fewer, Rosters.IsProper-fewer_listeners, Rosters.here_from, Rosters.not_found}
use Rattle.mum_users.proofs.roster.Roster.unlisten.Goals as goal

pub returns-in_default-clause-outcome : goal.returns-in_default-clause-outcome
returns-in_default-clause-outcome c = (not_found _ _ c.args.session _ c.self.view_is c.as_slice.ensures.value c.in_default.ensures, refl)

pub invariant_of-self : goal.invariant_of-self
invariant_of-self c = record {
  proper = rw c.leave.ensures (IsProper-fewer_listeners _ (λ pair. not (is_of_session c.args.session pair && is_among (c.args.channel ∷ []) pair.channel)) c.self.invariant.proper);
  rise = c.self.invariant.rise;
  numbered = c.self.invariant.numbered;
  member_masks = c.self.invariant.member_masks;
  enough = c.self.invariant.enough;
  listener_masks = rw (c.clear_slot.ensures.items, c.leave.ensures) (listeners-fewer _ _ _ _ _ c.args.session _ _ c.index.result.now c.self.invariant c.as_slice.ensures.value c.in-Some.ensures c.index.ensures c.args.channel);
}

pub returns-clause-outcome : goal.returns-clause-outcome
returns-clause-outcome c = rw c.leave.ensures (here_from _ _ c.args.session _ _ c.self.view_is c.as_slice.ensures.value c.in-Some.ensures, rw (← c.self.view_is) refl)

pub returns-clause-proper : goal.returns-clause-proper
returns-clause-proper c =
    rw c.leave.ensures (IsProper-fewer_listeners _ (λ pair. not (is_of_session c.args.session pair && is_among (c.args.channel ∷ []) pair.channel)) c.self.invariant.proper)
