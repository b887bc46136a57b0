use Rattle.mum_notify.proofs.Within.{all_sound}
use Rattle.mum_notify.proofs.users.user_change_frames.Goals as goal

pub differences-requires : goal.differences-requires
differences-requires c = all_sound c.args.after.now _ _ c.roster-roster.ensures.proper c.roster-roster.ensures.roster c.users.ensures
