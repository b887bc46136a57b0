use Rattle.mum_tree.proofs.Common.{◌∙◌}
use Rattle.mum_tree.proofs.LinkSearch.{found_by_binary_search}
use Rattle.mum_tree.proofs.links.has_link.Goals as goal

pub returns : goal.returns
returns c =
    c.is_ok.ensures.value
    ∙ found_by_binary_search c.args.links.now c.args.from c.args.to c.requires c.binary_search.result c.binary_search.ensures.bound c.binary_search.ensures.position
