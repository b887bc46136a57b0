use Rattle.mum_serve.proofs.Common.{HaveShared}
use Rattle.mum_serve.proofs.queues.Queues.new.Given as goal

abbrev pub invariant-workers : goal.invariant-workers
invariant-workers g l = HaveShared l.worker l.ends l.bells.items l.shared.items
