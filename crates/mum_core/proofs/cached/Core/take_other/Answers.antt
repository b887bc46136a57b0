use Rattle.mum_core.proofs.Looking.{each_settled}
use Rattle.mum_core.proofs.cached.Core.take_other.Goals as goal

pub invariant_of-self : goal.invariant_of-self
invariant_of-self c =
    each_settled c.self.inside.machine c.take.new.self c.args.step.now c.self.inside.caches.items c.take.result c.know_edits.ensures.proper c.know_edits.ensures.fit
    c.take.ensures.settled c.self.invariant
