use Rattle.mum_config.proofs.Common.{refl, err_from_is_err_and, first, later, none_said, none_within, number_within}
use Rattle.mum_config.proofs.config.read_settings.Goals as goal

pub returns-in_err-welcome-clause-reads : goal.returns-in_err-welcome-clause-reads
returns-in_err-welcome-clause-reads c =
    let p = err_from_is_err_and c.from_residual.result c.from_residual.ensures.1 in
    rw (p.1, p.2) (first _ _ _ (c.in_err-welcome.ensures))

pub returns-in_err-bandwidth-clause-reads : goal.returns-in_err-bandwidth-clause-reads
returns-in_err-bandwidth-clause-reads c =
    let p = err_from_is_err_and c.from_residual-in_err-bandwidth.result c.from_residual-in_err-bandwidth.ensures.1 in
    rw (p.1, p.2) (later _ _ _ (c.in_ok-welcome.ensures.0) (first _ _ _ (c.in_err-bandwidth.ensures)))

pub returns-in_err-workers-clause-reads : goal.returns-in_err-workers-clause-reads
returns-in_err-workers-clause-reads c =
    let p = err_from_is_err_and c.from_residual-in_err-workers.result c.from_residual-in_err-workers.ensures.1 in
    rw (p.1, p.2) (later _ _ _ (c.in_ok-welcome.ensures.0) (later _ _ _ (c.in_ok-bandwidth.ensures.0) (first _ _ _ (c.in_err-workers.ensures))))

pub returns-in_err-password-clause-reads : goal.returns-in_err-password-clause-reads
returns-in_err-password-clause-reads c =
    let p = err_from_is_err_and c.from_residual-in_err-password.result c.from_residual-in_err-password.ensures.1 in
    rw (p.1, p.2) (later _ _ _ (c.in_ok-welcome.ensures.0) (later _ _ _ (c.in_ok-bandwidth.ensures.0) (later _ _ _ (c.in_ok-workers.ensures.0) (first _ _ _ (c.in_err-password.ensures)))))

pub returns-clause-reads : goal.returns-clause-reads
returns-clause-reads c = (
  none_said _ _ (c.in_ok-welcome.ensures.0) (none_said _ _ (c.in_ok-bandwidth.ensures.0) (none_said _ _ (c.in_ok-workers.ensures.0) (none_said _ _ (c.in_ok-password.ensures.0) (refl)))),
  rw (c.in_ok-welcome.ensures.1, c.in_ok-bandwidth.ensures.1, c.in_ok-workers.ensures.1, c.in_ok-password.ensures.1) refl,
)

pub returns-clause-workers : goal.returns-clause-workers
returns-clause-workers c = rw c.in_ok-workers.ensures.1 (number_within 1 8 _ (none_within _ _ c.in_ok-workers.ensures.0))
