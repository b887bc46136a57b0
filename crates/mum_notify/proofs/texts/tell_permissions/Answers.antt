use Rattle.mum_notify.proofs.Common.{permission_parcel}
use Rattle.mum_notify.proofs.{Pieces.mapped_more, Sent.inside_at}
use Rattle.mum_notify.proofs.texts.tell_permissions.Goals as goal

pub loop-user-preserved : goal.loop-user-preserved
loop-user-preserved c =
    mapped_more (permission_parcel c.args.state.now) c.args.list.now.items c.args.users.now c.loop-user.user-index c.user-item.result c.loop-user.list.items _ c.loop-user-test.true c.user-item.is c.loop-user.invariant c.in_ok-tell_permission.ensures

pub tell_permission-requires : goal.tell_permission-requires
tell_permission-requires c = inside_at c.args.state.now c.args.users.now c.loop-user.user-index _ c.requires c.loop-user-test.true c.user-item.is
