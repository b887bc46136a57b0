use Rattle.mum_notify.proofs.Common.{arith, to_each}
use Rattle.mum_notify.proofs.Pieces.{pieces_more}
use Rattle.mum_notify.proofs.parcels.tell_all.Goals as goal

pub loop-frame-preserved : goal.loop-frame-preserved
loop-frame-preserved c =
    pieces_more (to_each c.args.users.now) c.args.list.now.items c.args.frames.now c.loop-frame.frame-index c.frame-item.result c.loop-frame.list.items _ (omega arith) c.frame-item.is c.loop-frame.invariant c.in_ok-tell_each.ensures
