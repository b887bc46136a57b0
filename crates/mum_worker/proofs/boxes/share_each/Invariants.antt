use Rattle.mum_worker.proofs.CommonNames.{◌≡◌, ◌++◌, map, into_iter_items, lower_half, upper_half}
use Rattle.mum_worker.proofs.boxes.share_each.Given as goal

abbrev pub invariant-loop-owner : goal.invariant-loop-owner
invariant-loop-owner g l =
    (l.owners.items ++ map lower_half (into_iter_items l.owner-iterator) ≡ map lower_half l.fn.boxes.items)
    × (l.shares.items ++ map upper_half (into_iter_items l.owner-iterator) ≡ map upper_half l.fn.boxes.items)
