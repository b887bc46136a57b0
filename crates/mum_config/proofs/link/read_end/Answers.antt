use Rattle.mum_config.proofs.Common.{refl, sym, ap, ◌∙◌, is_none, depth_of, first, later, none_said, is_none-from}
use Rattle.mum_config.proofs.link.read_end.Goals as goal

pub returns-in-Err : goal.returns-in-Err
returns-in-Err c = first _ _ _ (rw c.in-Err.ensures c.fault_at.ensures)

pub returns-then-is_none : goal.returns-then-is_none
returns-then-is_none c =
    later _ _ _ c.in-Ok.ensures.0 (rw (sym (is_none-from _ _ c.is_none.ensures ∙ ap is_none (c.depth_in.ensures ∙ ap (λ n. depth_of c.args.depths.now.entries n) c.in-Ok.ensures.1)) ∙ c.if-is_none.true) c.fault_at-then-is_none.ensures)

pub returns : goal.returns
returns c = (none_said _ _ c.in-Ok.ensures.0 (rw (sym (is_none-from _ _ c.is_none.ensures ∙ ap is_none (c.depth_in.ensures ∙ ap (λ n. depth_of c.args.depths.now.entries n) c.in-Ok.ensures.1)) ∙ c.if-is_none.false) refl), c.in-Ok.ensures.1)
