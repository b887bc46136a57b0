use Rattle.mum_tree.proofs.EditBack.{edits_both_ways}
use Rattle.mum_tree.proofs.laws.edits.Goals as goal

pub returns : goal.returns
returns c = edits_both_ways
