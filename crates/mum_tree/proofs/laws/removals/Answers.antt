use Rattle.mum_tree.proofs.Back.{removes_both_ways}
use Rattle.mum_tree.proofs.laws.removals.Goals as goal

pub returns : goal.returns
returns c = removes_both_ways
