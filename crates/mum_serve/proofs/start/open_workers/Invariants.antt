use Rattle.mum_serve.proofs.Common.{◌≡◌, ◌≤◌, ◌+◌, length, All, AllByRecursion, vec_capacity, into_iter_items, into_iter_len, IsFresh, AreOpenedFrom, HasBoxes}
use Rattle.mum_serve.proofs.Opening.{AreOver}
use Rattle.mum_serve.proofs.start.open_workers.Given as goal

abbrev pub invariant-workers : goal.invariant-workers
invariant-workers g l =
    (length (into_iter_items l.passes) + l.number ≡ l.fn.count)
    × (length (into_iter_items l.shared) + l.number ≡ l.fn.count)
    × (into_iter_len l.passes ≡ length (into_iter_items l.passes))
    × (into_iter_len l.shared ≡ length (into_iter_items l.shared))
    × All (IsFresh g.N.Naming.opening) (into_iter_items l.passes)
    × All HasBoxes (into_iter_items l.shared)
    × AreOver (into_iter_items l.shared) l.fn.shared.items l.workers.items
    × AreOpenedFrom g.N.Naming.opening l.fn.closings 0 l.workers.items
    × (length l.workers.items ≡ l.number)
    × (l.fn.count ≤ vec_capacity l.workers)
    × AllByRecursion (λ worker. worker.workers ≡ l.fn.count) l.workers.items
