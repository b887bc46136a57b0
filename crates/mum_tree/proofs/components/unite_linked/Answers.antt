use Rattle.mum_tree.proofs.Common.{◌∙◌, get_or, refl, get_or_default, united, Pair}
use Rattle.mum_tree.proofs.Numbered.{forest_alone, united_more, united_none}
use Rattle.mum_tree.proofs.components.unite_linked.Goals as goal

pub loop-link-init : goal.loop-link-init
loop-link-init c =
    let forest = forest_alone c.args.numbers.now c.requires.alone in
    record {
      whole = refl;
      down = forest.down;
      united = (λ k. k, forest, united_none c.args.rows.now c.args.links.now);
    }

pub loop-link-preserved : goal.loop-link-preserved
loop-link-preserved c =
    let links = c.args.links.now in
    let at = c.loop-link.link-index in
    let from = c.place_in_rows-from in
    let to = c.place_in_rows-to in
    let none : Pair = (record { 0 = 0 }, record { 0 = 0 }) in
    let link = get_or links at none in
    let (first, forest, are) = c.loop-link.invariant.united in
    record {
      whole = c.unite.ensures.whole ∙ c.loop-link.invariant.whole;
      down = c.unite.ensures.down;
      united = (
        united first from.result to.result,
        c.unite.ensures.united first forest,
        united_more c.args.rows.now links first at from.result to.result link c.requires.rise c.requires.pairs.both c.loop-link-test.true
            (get_or_default links at none link c.loop-link-test.true) from.ensures.within to.ensures.within from.ensures.is to.ensures.is are,
      );
    }
