use Rattle.mum_tree.proofs.EditBack.{renames_both_ways}
use Rattle.mum_tree.proofs.laws.renamings.Goals as goal

pub returns : goal.returns
returns c = renames_both_ways
