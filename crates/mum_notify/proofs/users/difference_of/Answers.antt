use Rattle.mum_notify.proofs.Within.{sound_found}
use Rattle.mum_notify.proofs.users.difference_of.Goals as goal

pub add_difference-requires : goal.add_difference-requires
add_difference-requires c = sound_found c.args.after.now c.roster-roster.result.now c.args.session c.in-Some.user.now c.roster-roster.ensures.proper c.roster-roster.ensures.roster c.in-Some.ensures.row
