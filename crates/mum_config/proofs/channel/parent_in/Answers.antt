use Rattle.mum_config.proofs.Common.{ap, arith, refl, ◌∙◌, is_none, unwrap_or, err_from_is_err_and, first, later, none_said, nat_tests, depth_of, is_none-from, none_against}
use Rattle.mum_config.proofs.channel.parent_in.Goals as goal

pub returns-in_err-number-clause-reads : goal.returns-in_err-number-clause-reads
returns-in_err-number-clause-reads c =
    let p = err_from_is_err_and c.from_residual.result c.from_residual.ensures.1 in
    rw (p.1, p.2) (first _ _ _ (c.in_err-number.ensures))

pub returns-in_err-refuse_if-clause-reads : goal.returns-in_err-refuse_if-clause-reads
returns-in_err-refuse_if-clause-reads c =
    let p = err_from_is_err_and c.from_residual-in_err-refuse_if.result c.from_residual-in_err-refuse_if.ensures.1 in
    rw (p.1, p.2) (later _ _ _ (c.in_ok-number.ensures.0) (first _ _ _ (rw (is_none-from _ _ c.is_none.ensures ∙ ap is_none (c.depth_in-depth.ensures ∙ ap (λ n. depth_of c.args.depths.now.entries n) c.in_ok-number.ensures.1)) at c.in_err-refuse_if.ensures)))

pub returns-in_err-refuse_if-2-clause-reads : goal.returns-in_err-refuse_if-2-clause-reads
returns-in_err-refuse_if-2-clause-reads c =
    let p = err_from_is_err_and c.from_residual-in_err-refuse_if-2.result c.from_residual-in_err-refuse_if-2.ensures.1 in
    rw (p.1, p.2) (later _ _ _ (c.in_ok-number.ensures.0) (later _ _ _ (rw (is_none-from _ _ c.is_none.ensures ∙ ap is_none (c.depth_in-depth.ensures ∙ ap (λ n. depth_of c.args.depths.now.entries n) c.in_ok-number.ensures.1)) at c.in_ok-refuse_if.ensures.0) (first _ _ _ (rw (c.unwrap_or-depth.ensures ∙ ap (λ o. unwrap_or o 0) (c.depth_in-depth.ensures ∙ ap (λ n. depth_of c.args.depths.now.entries n) c.in_ok-number.ensures.1)) at c.in_err-refuse_if-2.ensures))))

pub returns-clause-reads : goal.returns-clause-reads
returns-clause-reads c = (
  none_said _ _ (c.in_ok-number.ensures.0) (none_said _ _ (rw (is_none-from _ _ c.is_none.ensures ∙ ap is_none (c.depth_in-depth.ensures ∙ ap (λ n. depth_of c.args.depths.now.entries n) c.in_ok-number.ensures.1)) at c.in_ok-refuse_if.ensures.0) (none_said _ _ (rw (c.unwrap_or-depth.ensures ∙ ap (λ o. unwrap_or o 0) (c.depth_in-depth.ensures ∙ ap (λ n. depth_of c.args.depths.now.entries n) c.in_ok-number.ensures.1)) at c.in_ok-refuse_if-2.ensures.0) (refl))),
  rw (c.in_ok-number.ensures.1, (c.unwrap_or-depth.ensures ∙ ap (λ o. unwrap_or o 0) (c.depth_in-depth.ensures ∙ ap (λ n. depth_of c.args.depths.now.entries n) c.in_ok-number.ensures.1))) refl,
)

pub returns-clause-within : goal.returns-clause-within
returns-clause-within c =
    let shallow = none_against _ _ _ c.in_ok-refuse_if-2.ensures.0 in grind (arith, nat_tests)
