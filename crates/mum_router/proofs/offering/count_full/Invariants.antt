use Rattle.mum_router.proofs.Common.{◌≡◌, take, full_of}
use Rattle.mum_router.proofs.offering.count_full.Given as goal

abbrev pub invariant-loop-out : goal.invariant-loop-out
invariant-loop-out g l = l.total ≡ full_of (take l.out-index l.outs)
