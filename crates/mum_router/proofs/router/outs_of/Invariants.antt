use Rattle.mum_router.proofs.Common.{◌≡◌, ◌++◌, map, into_iter_items, new_pass}
use Rattle.mum_router.proofs.router.outs_of.Given as goal

abbrev pub invariant-loop-queue : goal.invariant-loop-queue
invariant-loop-queue g l = l.outs.items ++ map new_pass (into_iter_items l.queue-iterator) ≡ map new_pass l.fn.voices.items
