use Rattle.mum_serve.proofs.Common.{drop}
use Rattle.mum_serve.proofs.Ending.{Compared}
use Rattle.mum_serve.proofs.collect.compare.Given as goal

-- those before this one were compared
abbrev pub invariant-loop-worker : goal.invariant-loop-worker
invariant-loop-worker g l = Compared l.fn.owner.control.publisher (drop l.worker-index l.fn.workers) l.fn.workers
