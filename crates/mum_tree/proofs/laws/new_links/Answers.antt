use Rattle.mum_tree.proofs.LinkBack.{link_both_ways}
use Rattle.mum_tree.proofs.laws.new_links.Goals as goal

pub returns : goal.returns
returns c = link_both_ways
