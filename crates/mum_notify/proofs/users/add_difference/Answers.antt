use Rattle.mum_notify.proofs.Within.{user_change_fits}
use Rattle.mum_notify.proofs.users.add_difference.Goals as goal

pub push_difference-requires : goal.push_difference-requires
push_difference-requires c = user_change_fits c.args.before.now c.args.after.now c.roster-old.result.now c.roster-new.result.now c.args.edit.now c.in-Some.was.now c.args.now.now c.in_ok-told.told c.roster-old.ensures.proper c.roster-new.ensures.proper c.roster-old.ensures.roster c.roster-new.ensures.roster c.requires c.in_ok-told.ensures
