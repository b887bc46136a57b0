use Rattle.mum_document.proofs.Common.{◌<◌, List, ℕ, length, map, refl, sym, ◌∙◌, rules, err_from_is_err_and, view, group_fault, group_of, with_group_met}
use Rattle.mum_document.proofs.Elements.{elements_step, elements_stop, pushed}
use Rattle.mum_document.proofs.group.add_groups.Goals as goal

pub returns-in_err-at_place-clause-reads : goal.returns-in_err-at_place-clause-reads
returns-in_err-at_place-clause-reads c =
    let p = err_from_is_err_and c.from_residual.result c.from_residual.ensures.1 in
    let v = c.index-values-place.result in
    let met : List (List ℕ) = map (λ n. n.now) c.loop-place.names.keys in
    let said = c.in_err-at_place.ensures.reads (group_fault met (view v)) tt c.read_group.ensures.reads in
    rw (p.1, p.2, ← c.loop-place.invariant.0) (elements_stop group_fault with_group_met _ met c.args.values.now c.loop-place.place v c.index-values-place.is (search rules) said)

pub loop-place-preserved : goal.loop-place-preserved
loop-place-preserved c =
    let v = c.index-values-place.result in
    let met : List (List ℕ) = map (λ n. n.now) c.loop-place.names.keys in
    let read = c.in_ok-at_place.ensures.reads (group_fault met (view v)) tt c.read_group.ensures.reads in
    let names = rw c.in_ok-at_place.ensures.ok at c.read_group.ensures.names in
    let groups = rw c.in_ok-at_place.ensures.ok at c.read_group.ensures.groups in
    let inside : c.loop-place.place < length c.args.values.now = search rules in (
      rw names (sym (elements_step group_fault with_group_met met c.args.values.now c.loop-place.place v c.index-values-place.is inside read.0) ∙ c.loop-place.invariant.0),
      pushed group_of _ _ _ _ c.args.values.now c.loop-place.place v c.index-values-place.is inside c.loop-place.invariant.1 groups refl,
    )
