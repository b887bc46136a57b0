use Rattle.mum_notify.proofs.Within.{kick_fits}
use Rattle.mum_notify.proofs.gone.tell_of_departure.Goals as goal

pub user_gone_frame-requires : goal.user_gone_frame-requires
user_gone_frame-requires c =
    kick_fits c.args.edit.now _ _ _ _ _ c.requires c.in-Kick.is c.in_ok-told-in-Kick.ensures
