use Rattle.mum_core.proofs.Common.{Tell}
use Rattle.mum_core.proofs.Looking.{each_given}
use Rattle.mum_core.proofs.cached.Core.step.Goals as goal

pub invariant_of-self : goal.invariant_of-self
invariant_of-self c =
    each_given c.self.inside.machine c.step_tell.new.self (Tell c.in-Tell.connection c.in-Tell.revision) c.self.inside.caches.items _ c.step_tell.result c.know_edits.ensures.proper
    c.know_edits.ensures.fit c.step_tell.ensures c.self.invariant
