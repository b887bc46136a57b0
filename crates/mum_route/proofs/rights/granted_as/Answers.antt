use Rattle.mum_route.proofs.Present.{policies_there}
use Rattle.mum_route.proofs.rights.granted_as.Goals as goal

pub permissions-requires-clause-there : goal.permissions-requires-clause-there
permissions-requires-clause-there g c = rw c.as_slice.ensures.value
    (policies_there c.args.state.now c.tree.result.now c.args.channel c.in-Some.path.items c.tree.ensures.proper c.tree.ensures.tree c.in-Some.ensures.way)
