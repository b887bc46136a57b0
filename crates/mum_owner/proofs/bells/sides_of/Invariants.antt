use Rattle.mum_owner.proofs.Common.{◌≡◌, ◌++◌, length, into_iter_items, into_iter_len}
use Rattle.mum_owner.proofs.Telling.{new_sides}
use Rattle.mum_owner.proofs.bells.sides_of.Given as goal

-- the sides so far, and the bells that are left
abbrev pub invariant-loop-queue : goal.invariant-loop-queue
invariant-loop-queue g l =
    (l.sides.items ++ new_sides (into_iter_items l.queue-iterator) ≡ new_sides l.fn.bells.items)
    × (into_iter_len l.queue-iterator ≡ length (into_iter_items l.queue-iterator))
