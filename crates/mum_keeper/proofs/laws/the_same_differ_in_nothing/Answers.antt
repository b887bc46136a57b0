use Rattle.mum_keeper.proofs.Comparing.{same_by_difference}
use Rattle.mum_keeper.proofs.laws.the_same_differ_in_nothing.Goals as goal

pub returns : goal.returns
returns c = same_by_difference
