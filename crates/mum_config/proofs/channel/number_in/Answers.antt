use Rattle.mum_config.proofs.Common.{not, ap, refl, ◌∙◌, err_from_is_err_and, first, later, none_said, rises}
use Rattle.mum_config.proofs.channel.number_in.Goals as goal

pub returns-in_err-number : goal.returns-in_err-number
returns-in_err-number c =
    let p = err_from_is_err_and c.from_residual.result c.from_residual.ensures.1 in
    rw (p.1, p.2) (first _ _ _ (c.in_err-number.ensures))

pub returns-in_err-refuse_if : goal.returns-in_err-refuse_if
returns-in_err-refuse_if c =
    let p = err_from_is_err_and c.from_residual-in_err-refuse_if.result c.from_residual-in_err-refuse_if.ensures.1 in
    rw (p.1, p.2) (later _ _ _ (c.in_ok-number.ensures.0) (first _ _ _ (rw (ap not (c.rises.ensures ∙ ap (λ n. rises c.args.last n) c.in_ok-number.ensures.1)) at c.in_err-refuse_if.ensures)))

pub returns : goal.returns
returns c = (
  none_said _ _ (c.in_ok-number.ensures.0) (none_said _ _ (rw (ap not (c.rises.ensures ∙ ap (λ n. rises c.args.last n) c.in_ok-number.ensures.1)) at c.in_ok-refuse_if.ensures.0) refl),
  c.in_ok-number.ensures.1,
)
