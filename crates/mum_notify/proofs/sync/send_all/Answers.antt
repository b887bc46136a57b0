use Rattle.mum_notify.proofs.Common.{parcel}
use Rattle.mum_notify.proofs.Pieces.{mapped_more}
use Rattle.mum_notify.proofs.sync.send_all.Goals as goal

pub loop-frame-preserved : goal.loop-frame-preserved
loop-frame-preserved c =
    mapped_more (λ frame. parcel frame c.args.user.now) c.args.list.now.items c.args.frames.now c.loop-frame.frame-index c.frame-item.result c.loop-frame.list.items _ c.loop-frame-test.true c.frame-item.is c.loop-frame.invariant c.in_ok-tell_one.ensures
