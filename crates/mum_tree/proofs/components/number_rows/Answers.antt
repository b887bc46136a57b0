use Rattle.mum_tree.proofs.Common.{◌≡◌, ◌∙◌, length, arith}
use Rattle.mum_tree.proofs.Numbered.{components_found}
use Rattle.mum_tree.proofs.components.number_rows.Goals as goal

pub returns : goal.returns
returns c =
    let (first, forest, are) = c.unite_linked.ensures.united in
    let same : length c.unite_linked.new.numbers ≡ length c.args.rows.now = c.unite_linked.ensures.whole ∙ c.separate.ensures.whole ∙ c.requires.whole in
    components_found c.args.rows.now c.args.links.now c.number_by_first.new.numbers first c.requires.rise c.requires.pairs (c.number_by_first.ensures.whole ∙ same)
    (λ k inside. forest.below k (omega (arith, same)))
    (λ k inside. c.number_by_first.ensures.numbers first k forest (omega (arith, same)))
    are
