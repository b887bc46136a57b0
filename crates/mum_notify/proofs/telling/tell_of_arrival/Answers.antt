use Rattle.mum_notify.proofs.Common.{refl, user_told}
use Rattle.mum_notify.proofs.{Sent.arrived, Sent.so_on_ok, Within.sound_found, Within.user_fits}
use Rattle.mum_notify.proofs.telling.tell_of_arrival.Goals as goal

pub frame_of_user-requires : goal.frame_of_user-requires
frame_of_user-requires c = user_fits c.args.after.now c.roster-roster.result.now c.in-Some.user.now (user_told c.roster-roster.result.now c.in-Some.user.now) c.roster-roster.ensures.proper c.roster-roster.ensures.roster (sound_found c.args.after.now c.roster-roster.result.now _ c.in-Some.user.now c.roster-roster.ensures.proper c.roster-roster.ensures.roster c.in-Some.ensures.row) refl

pub returns : goal.returns
returns c =
    so_on_ok c.tell_others.result
    (arrived c.args.after.now c.args.edit.now _ _ _ _ _ c.roster-roster.result.now c.in-Some.user.now c.users.result.now (user_told c.roster-roster.result.now c.in-Some.user.now) c.in_ok-frame.frame c.args.list.now.items c.tell_state.new.list.items c.tell_others.new.list.items
    c.in-Join.is c.roster-roster.ensures.roster c.in-Some.ensures.row refl c.in_ok-frame.ensures c.users.ensures c.in_ok-tell_state.ensures)
    c.tell_others.ensures
