use Rattle.mum_notify.proofs.Common.{parcel}
use Rattle.mum_notify.proofs.Pieces.{mapped_more}
use Rattle.mum_notify.proofs.parcels.tell_each.Goals as goal

pub loop-user-preserved : goal.loop-user-preserved
loop-user-preserved c =
    mapped_more (parcel c.args.frame.now) c.args.list.now.items c.args.users.now c.loop-user.user-index c.user-item.result c.loop-user.list.items _ c.loop-user-test.true c.user-item.is c.loop-user.invariant c.in_ok-tell_one.ensures
