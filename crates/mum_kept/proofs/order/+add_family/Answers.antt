use Rattle.mum_kept.proofs.Common.{◌-◌, [], ◌∷◌, ◌++◌, List, ap, ◌∙◌, arith, flat_map, take_all, Pair, family, no_levels}
use Rattle.mum_kept.proofs.ByParents.{family_told, kids_in}
use Rattle.mum_kept.proofs.order.+add_family.Goals as goal

pub returns-then-levels-eq0 : goal.returns-then-levels-eq0
returns-then-levels-eq0 t c = no_levels (kids_in c.args.listed.now) c.args.levels c.args.id c.args.ordered.now.items c.if-levels-eq0.true

pub returns : goal.returns
returns t c =
    family_told c.args.listed.now c.args.levels c.args.id c.children_under-under.result.now c.args.ordered.now.items c.loop-child.ordered.items c.loop-child.invariant.some c.loop-child.invariant.under
    (c.loop-child.invariant.front
    ∙ ap (λ (xs : List Pair). (c.args.ordered.now.items ++ c.args.id ∷ []) ++ flat_map (λ (child : Pair). family (kids_in c.args.listed.now) (c.args.levels - 1) child.1) xs) (take_all c.loop-child.child-index c.children_under-under.result.now (omega arith)))
