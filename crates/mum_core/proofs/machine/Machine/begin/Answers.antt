use Rattle.mum_core.proofs.Common.{arith}
use Rattle.mum_core.proofs.Begun.{is_start, kept_at_start}
use Rattle.mum_core.proofs.machine.Machine.begin.Goals as goal

pub of-requires : goal.of-requires
of-requires c =
    kept_at_start _ _ _ _ _ _ _ c.in_ok-history.ensures.history c.in_ok-history.ensures.each c.in_ok-history.ensures.count (omega (arith, c.ranges.workers)) c.in_ok-hands.ensures.count
    c.in_ok-hands.ensures.slots c.in_ok-posts.ensures.count

pub returns : goal.returns
returns c =
    is_start _ _ _ _ _ _ _ _ c.of.ensures c.in_ok-history.ensures.history
    c.in_ok-hands.ensures.idle c.in_ok-hands.ensures.empty c.in_ok-posts.ensures.empty
