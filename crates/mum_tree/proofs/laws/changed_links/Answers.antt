use Rattle.mum_tree.proofs.Partners.{links_both_ways}
use Rattle.mum_tree.proofs.laws.changed_links.Goals as goal

pub returns : goal.returns
returns c = links_both_ways
