use Rattle.mum_notify.proofs.Common.{[], arith, user_difference, user_frame}
use Rattle.mum_notify.proofs.{Pieces.told_more, Within.sound_at}
use Rattle.mum_notify.proofs.users.differences.Goals as goal

pub loop-user-preserved : goal.loop-user-preserved
loop-user-preserved c =
    told_more user_frame (user_difference c.args.before.now c.args.edit.now c.args.after.now) [] c.args.users.now c.loop-user.user-index c.user-item.result c.loop-user.frames.items _ (omega arith) c.user-item.is c.loop-user.invariant c.in_ok-add_difference.ensures

pub add_difference-requires : goal.add_difference-requires
add_difference-requires c = sound_at c.args.users.now c.loop-user.user-index _ c.requires (omega arith) c.user-item.is
