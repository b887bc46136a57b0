use Rattle.mum_policy.proofs.Held.{no_way, no_way_below}
use Rattle.mum_policy.proofs.laws.no_way_through.Goals as goal

pub returns-clause-through : goal.returns-clause-through
returns-clause-through c = no_way

pub returns-clause-below : goal.returns-clause-below
returns-clause-below c = no_way_below
