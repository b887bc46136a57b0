use Rattle.mum_core.proofs.Common.{◌≡◌, None, replicate}
use Rattle.mum_core.proofs.caches.places.Given as goal

abbrev pub invariant-loop-number : goal.invariant-loop-number
invariant-loop-number l = l.caches.items ≡ replicate l._number None
