use Rattle.mum_rules_tree.proofs.Common.{none_marked}
use Rattle.mum_rules_tree.proofs.met.MetPlaces.none.Goals as goal

pub returns : goal.returns
returns c = λ place. none_marked 2048 place
