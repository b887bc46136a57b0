use Rattle.mum_config.proofs.Common.{refl, err_from_is_err_and, out_of_memory}
use Rattle.mum_config.proofs.given.add_policy.Goals as goal

pub returns-in_err-policy-clause-reads : goal.returns-in_err-policy-clause-reads
returns-in_err-policy-clause-reads c =
    let p = err_from_is_err_and c.from_residual.result c.from_residual.ensures.1 in
    rw (p.1, p.2) c.in_err-policy.ensures

pub returns-in_err-push_policy-clause-reads : goal.returns-in_err-push_policy-clause-reads
returns-in_err-push_policy-clause-reads c =
    let p = err_from_is_err_and c.from_residual-in_err-push_policy.result c.from_residual-in_err-push_policy.ensures.1 in
    rw p.1 (out_of_memory _ _ p.2)

pub returns-clause-edits : goal.returns-clause-edits
returns-clause-edits c = rw (c.in_ok-push_policy.ensures, c.in_ok-policy.ensures.1) refl
