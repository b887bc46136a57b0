use Rattle.mum_notify.proofs.Common.{◌≡◌, subst, IfOk, ServerSync, sync_frame}
use Rattle.mum_notify.proofs.{Sent.root_there, Within.welcome_fits}
use Rattle.mum_notify.proofs.sync.frame_of_welcome.Goals as goal

pub welcome_told-requires : goal.welcome_told-requires
welcome_told-requires c = root_there c.args.state.now c.requires

pub sync_frame-requires : goal.sync_frame-requires
sync_frame-requires c = welcome_fits c.args.state.now c.args.user.now _ c.requires c.in_ok-told.ensures

pub returns : goal.returns
returns c = subst (λ (told : ServerSync). IfOk c.sync_frame.result (λ frame. frame ≡ sync_frame told)) c.in_ok-told.ensures c.sync_frame.ensures
