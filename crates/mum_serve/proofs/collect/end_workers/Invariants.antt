use Rattle.mum_serve.proofs.Common.{◌≡◌, ◌≤◌, ◌+◌, ◌++◌, length, map, vec_capacity, into_iter_items, into_iter_len, Each, IsWritableEntry, entries_of, with_workers, nothing}
use Rattle.mum_serve.proofs.collect.end_workers.Given as goal

abbrev pub invariant-loop-worker : goal.invariant-loop-worker
invariant-loop-worker g l =
    (with_workers (into_iter_items l.worker-iterator) l.totals ≡ with_workers l.fn.workers.items nothing)
    × (into_iter_len l.worker-iterator ≡ length (into_iter_items l.worker-iterator))
    × (l.by_worker.items ++ map entries_of (into_iter_items l.worker-iterator) ≡ map entries_of l.fn.workers.items)
    × Each (Each IsWritableEntry) l.by_worker.items
    × (length l.by_worker.items + length (into_iter_items l.worker-iterator) ≤ vec_capacity l.by_worker)
