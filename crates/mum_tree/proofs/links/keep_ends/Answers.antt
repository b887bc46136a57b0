use Rattle.mum_tree.proofs.Common.{◌∙◌, ◌<◌, length, sym, arith, FiltersInPlace-more_no, FiltersInPlace-more_set}
use Rattle.mum_tree.proofs.links.keep_ends.Goals.{then-both_there, else-both_there}
use Rattle.mum_tree.proofs.links.keep_ends.Goals as goal

pub loop-at-preserved : goal.loop-at-preserved
loop-at-preserved c =
    let within : c.loop-at.at < length c.loop-at.links.items = omega (arith, c.loop-at.invariant.filters.long, c.len-at-end.ensures) in
    elim c.if-both_there.branch [
      | then-both_there w ↦ rw (w.links-is, w.kept-is) (record { filters = FiltersInPlace-more_set c.loop-at.invariant.filters within (sym c.both_there.ensures ∙ w.if-both_there.true) c.index-link.ensures })
      | else-both_there w ↦ rw (w.links-is, w.kept-is) (record { filters = FiltersInPlace-more_no c.loop-at.invariant.filters within (sym c.both_there.ensures ∙ w.if-both_there.false) c.index-link.ensures })
    ]
