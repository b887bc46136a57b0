use Rattle.mum_users.proofs.Common.{refl, set, vec_capacity, IsKept}
use Rattle.mum_users.proofs.{Rosters.IsKept-set, Rosters.found, Rosters.not_found, roster.Roster.suppress.Goals.After-index_mut-user}
use Rattle.mum_users.proofs.roster.Roster.suppress.Goals as goal

pub returns-in-None-clause-outcome : goal.returns-in-None-clause-outcome
returns-in-None-clause-outcome c = (not_found _ _ c.args.session _ c.self.view_is c.as_slice.ensures.value c.in-None.ensures, refl)

-- what is left is a proper roster with the slots of its sessions
kept : (c : After-index_mut-user) → IsKept (record { sessions = set c.self.inside.users.items c.in-Some.index (record c.index_mut-user.result.now { suppress = c.args.on }); listeners = c.self.inside.listeners; targets = c.self.inside.targets.items; last = c.self.inside.last; limit = c.self.inside.limit }) c.self.inside.slots.items c.self.inside.member_rows.items (vec_capacity c.self.inside.member_rows) c.self.inside.listener_rows.items
kept c =
    IsKept-set _ _ _ _ _ c.args.session (λ user. record user { suppress = c.args.on }) _ _ c.index_mut-user.result.now
    (record { session = λ _. refl; slot = λ _. refl; name = λ _. refl; silence = λ _ e. e }) (λ _. refl)
    c.self.invariant c.as_slice.ensures.value c.in-Some.ensures c.index_mut-user.ensures.value

pub invariant_of-self : goal.invariant_of-self
invariant_of-self c = kept (goal.at.invariant_of-self c).After-index_mut-user

pub returns-in-Some-clause-outcome : goal.returns-in-Some-clause-outcome
returns-in-Some-clause-outcome c =
    found _ _ c.args.session (λ user. record user { suppress = c.args.on }) _ _ c.index_mut-user.result.now
    c.self.view_is c.self.invariant.proper c.as_slice.ensures.value c.in-Some.ensures c.index_mut-user.ensures.value

pub returns-in-Some-clause-proper : goal.returns-in-Some-clause-proper
returns-in-Some-clause-proper c = (kept (goal.at.returns-in-Some-clause-proper c).After-index_mut-user).proper
