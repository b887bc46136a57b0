use Rattle.mum_router.proofs.Common.{◌≡◌, take, copies_of}
use Rattle.mum_router.proofs.offering.count_sent.Given as goal

abbrev pub invariant-loop-out : goal.invariant-loop-out
invariant-loop-out g l = l.total ≡ copies_of (take l.out-index l.outs)
