use Rattle.mum_notify.proofs.Common.{refl, user_told}
use Rattle.mum_notify.proofs.Within.{user_fits}
use Rattle.mum_notify.proofs.sync.tell_user.Goals as goal

pub frame_of_user-requires : goal.frame_of_user-requires
frame_of_user-requires c = user_fits c.args.state.now c.roster-roster.result.now c.args.user.now (user_told c.roster-roster.result.now c.args.user.now) c.roster-roster.ensures.proper c.roster-roster.ensures.roster c.requires refl
