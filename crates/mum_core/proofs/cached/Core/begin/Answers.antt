use Rattle.mum_core.proofs.Looking.{each_at_first}
use Rattle.mum_core.proofs.cached.Core.begin.Goals as goal

pub invariant_of-result : goal.invariant_of-result
invariant_of-result c = each_at_first c.args.version c.args.opening c.args.workers c.in-Ok-begin.machine c.in-Ok.caches.items c.in-Ok-begin.ensures c.in-Ok.ensures.none
