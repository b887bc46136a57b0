use Rattle.mum_tree.proofs.Common.{ap}
use Rattle.mum_tree.proofs.Changed.{number_found}
use Rattle.mum_tree.proofs.rows.place_in_rows.Goals as goal

pub returns-clause-is : goal.returns-clause-is
returns-clause-is c = λ other. ap (λ n. record { 0 = n }) (number_found c.args.rows.now c.args.id _ ((c.in-Some.ensures {u = tt}).1 other))
