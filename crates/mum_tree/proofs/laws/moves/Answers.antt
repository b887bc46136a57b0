use Rattle.mum_tree.proofs.EditBack.{moves_both_ways}
use Rattle.mum_tree.proofs.laws.moves.Goals as goal

pub returns : goal.returns
returns c = moves_both_ways
