use Rattle.mum_policy.proofs.Sets.{nothing_taken, write_adds}
use Rattle.mum_policy.proofs.laws.write_adds_the_rest.Goals as goal

pub returns-clause-adds : goal.returns-clause-adds
returns-clause-adds c = write_adds

pub returns-clause-takes : goal.returns-clause-takes
returns-clause-takes c = nothing_taken
