use Rattle.mum_notify.proofs.Common.{user_frame, user_told}
use Rattle.mum_notify.proofs.{Pieces.mapped_more, Within.sound_at}
use Rattle.mum_notify.proofs.sync.tell_users.Goals as goal

pub tell_user-requires : goal.tell_user-requires
tell_user-requires c = sound_at c.args.users.now c.loop-user.user-index _ c.requires c.loop-user-test.true c.user-item.is

pub loop-user-preserved : goal.loop-user-preserved
loop-user-preserved c =
    mapped_more (λ user. user_frame (user_told c.args.state.now.roster user)) c.args.frames.now.items c.args.users.now c.loop-user.user-index c.user-item.result c.loop-user.frames.items _ c.loop-user-test.true c.user-item.is c.loop-user.invariant c.in_ok-tell_user.ensures
