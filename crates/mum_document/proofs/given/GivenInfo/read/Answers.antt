use Rattle.mum_document.proofs.Common.{refl, err_from_is_err_and}
use Rattle.mum_document.proofs.First.{first, later, none_said}
use Rattle.mum_document.proofs.given.GivenInfo.read.Goals as goal

pub returns-in_err-position : goal.returns-in_err-position
returns-in_err-position c =
    let p = err_from_is_err_and c.from_residual.result c.from_residual.ensures.1 in
    rw (p.1, p.2) (first _ _ _ (c.in_err-position.ensures))

pub returns-in_err-max_users : goal.returns-in_err-max_users
returns-in_err-max_users c =
    let p = err_from_is_err_and c.from_residual-in_err-max_users.result c.from_residual-in_err-max_users.ensures.1 in
    rw (p.1, p.2) (later _ _ _ (c.in_ok-position.ensures.0) (first _ _ _ (c.in_err-max_users.ensures)))

pub returns-in_err-description : goal.returns-in_err-description
returns-in_err-description c =
    let p = err_from_is_err_and c.from_residual-in_err-description.result c.from_residual-in_err-description.ensures.1 in
    rw (p.1, p.2) (later _ _ _ (c.in_ok-position.ensures.0) (later _ _ _ (c.in_ok-max_users.ensures.0) (first _ _ _ (c.in_err-description.ensures))))

pub returns : goal.returns
returns c = (
  none_said _ _ (c.in_ok-position.ensures.0) (none_said _ _ (c.in_ok-max_users.ensures.0) (none_said _ _ (c.in_ok-description.ensures.0) refl)),
  rw (c.in_ok-position.ensures.1, c.in_ok-max_users.ensures.1, c.in_ok-description.ensures.1) refl,
)
