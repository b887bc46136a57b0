use Rattle.mum_serve.proofs.Common.{◌≡◌, ◌≤◌, ◌+◌, length, vec_capacity, into_iter_items, into_iter_len}
use Rattle.mum_serve.proofs.Together.{Taken}
use Rattle.mum_serve.proofs.roles.take_apart.Given as goal

abbrev pub invariant-loop-role : goal.invariant-loop-role
invariant-loop-role g l =
    Taken l.workers.items l.viewer l.store (into_iter_items l.role-iterator) l.fn.roles.items
    × (into_iter_len l.role-iterator ≡ length (into_iter_items l.role-iterator))
    × (length l.workers.items + length (into_iter_items l.role-iterator) ≤ vec_capacity l.workers)
