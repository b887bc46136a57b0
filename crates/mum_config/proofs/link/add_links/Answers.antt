use Rattle.mum_config.proofs.Common.{◌<◌, length, refl, sym, ◌∙◌, rules, err_from_is_err_and, view, link_edit, link_fault, with_link_met, elements_step, elements_stop, pushed}
use Rattle.mum_config.proofs.link.add_links.Goals as goal

pub returns-in_err-at_place-clause-reads : goal.returns-in_err-at_place-clause-reads
returns-in_err-at_place-clause-reads c =
    let p = err_from_is_err_and c.from_residual.result c.from_residual.ensures.1 in
    let v = c.index-values-place.result in
    let said = c.in_err-at_place.ensures.reads (link_fault c.args.depths.now.entries c.loop-place.met.ends.keys (view v)) tt c.read_link.ensures.reads in
    rw (p.1, p.2, ← c.loop-place.invariant.0) (elements_stop (link_fault c.args.depths.now.entries) with_link_met _ c.loop-place.met.ends.keys c.args.values.now c.loop-place.place v c.index-values-place.is (search rules) said)

pub loop-place-preserved : goal.loop-place-preserved
loop-place-preserved c =
    let v = c.index-values-place.result in
    let read = c.in_ok-at_place.ensures.reads (link_fault c.args.depths.now.entries c.loop-place.met.ends.keys (view v)) tt c.read_link.ensures.reads in
    let met = rw c.in_ok-at_place.ensures.ok at c.read_link.ensures.met in
    let counted = rw c.in_ok-at_place.ensures.ok at c.read_link.ensures.counted in
    let edits = rw c.in_ok-at_place.ensures.ok at c.read_link.ensures.edits in
    let inside : c.loop-place.place < length c.args.values.now = search rules in (
      rw met (sym (elements_step (link_fault c.args.depths.now.entries) with_link_met c.loop-place.met.ends.keys c.args.values.now c.loop-place.place v c.index-values-place.is inside read.0) ∙ c.loop-place.invariant.0),
      pushed link_edit _ _ _ _ c.args.values.now c.loop-place.place v c.index-values-place.is inside c.loop-place.invariant.1 edits refl,
      counted,
    )
