use Rattle.mum_serve.proofs.Common.{◌≡◌, ◌≤◌, ◌+◌, ◌++◌, ◌∷◌, length, map, vec_capacity, into_iter_items, into_iter_len}
use Rattle.mum_serve.specs.declared.roles.Roles.TheVariants as kinds
use Rattle.mum_serve.proofs.roles.together.Given as goal

abbrev pub invariant-loop-worker : goal.invariant-loop-worker
invariant-loop-worker g l =
    (l.list.items ++ map kinds.Worker (into_iter_items l.worker-iterator) ≡ kinds.Owner l.fn.roles.owner ∷ map kinds.Worker l.fn.roles.workers.items)
    × (into_iter_len l.worker-iterator ≡ length (into_iter_items l.worker-iterator))
    × (length l.list.items + length (into_iter_items l.worker-iterator) + 2 ≤ vec_capacity l.list)
