use Rattle.mum_users.proofs.Common.{refl, set, err_from_is_err_and, vec_capacity, IsKept}
use Rattle.mum_users.proofs.{Rosters.IsKept-set, Rosters.found, Rosters.here_from, Rosters.not_found, roster.Roster.set_tokens.Goals.After-index_mut-user}
use Rattle.mum_users.proofs.roster.Roster.set_tokens.Goals as goal

pub returns-in-None-clause-outcome : goal.returns-in-None-clause-outcome
returns-in-None-clause-outcome c = (not_found _ _ c.args.session _ c.self.view_is c.as_slice.ensures.value c.in-None.ensures, refl)

-- what is left is a proper roster with the slots of its sessions
kept : (c : After-index_mut-user) → IsKept (record { sessions = set c.self.inside.users.items c.in-Some.index (record c.index_mut-user.result.now { tokens = c.in_ok-tokens-in-Some.tokens }); listeners = c.self.inside.listeners; targets = c.self.inside.targets.items; last = c.self.inside.last; limit = c.self.inside.limit }) c.self.inside.slots.items c.self.inside.member_rows.items (vec_capacity c.self.inside.member_rows) c.self.inside.listener_rows.items
kept c =
    rw c.in_ok-tokens-in-Some.ensures (
    IsKept-set _ _ _ _ _ c.args.session (λ user. record user { tokens = c.args.tokens.now }) _ _ c.index_mut-user.result.now
    (record { session = λ _. refl; slot = λ _. refl; name = λ _. refl; silence = λ _ e. e }) (λ _. refl)
    c.self.invariant c.as_slice.ensures.value c.in-Some.ensures c.index_mut-user.ensures.value)

pub invariant_of-self : goal.invariant_of-self
invariant_of-self c = kept (goal.at.invariant_of-self c).After-index_mut-user

pub returns-in_ok-tokens-in-Some-clause-outcome : goal.returns-in_ok-tokens-in-Some-clause-outcome
returns-in_ok-tokens-in-Some-clause-outcome c =
    let changed =
    found _ _ c.args.session (λ user. record user { tokens = c.args.tokens.now }) _ _ c.index_mut-user.result.now
    c.self.view_is c.self.invariant.proper c.as_slice.ensures.value c.in-Some.ensures c.index_mut-user.ensures.value in
    rw c.in_ok-tokens-in-Some.ensures changed

pub returns-in_err-tokens-in-Some-clause-outcome : goal.returns-in_err-tokens-in-Some-clause-outcome
returns-in_err-tokens-in-Some-clause-outcome c =
    let p = err_from_is_err_and c.from_residual.result c.from_residual.ensures.1 in
    rw (p.1, p.2) (here_from _ _ c.args.session _ _ c.self.view_is c.as_slice.ensures.value c.in-Some.ensures, refl)

pub returns-in_ok-tokens-in-Some-clause-proper : goal.returns-in_ok-tokens-in-Some-clause-proper
returns-in_ok-tokens-in-Some-clause-proper c = (kept (goal.at.returns-in_ok-tokens-in-Some-clause-proper c).After-index_mut-user).proper
