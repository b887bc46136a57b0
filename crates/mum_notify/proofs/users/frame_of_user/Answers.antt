use Rattle.mum_notify.proofs.Common.{◌≡◌, subst, sym, IfOk, UserState, IsWithinFrame, user_frame, user_payload}
use Rattle.mum_notify.proofs.users.frame_of_user.Goals as goal

pub user_frame-requires : goal.user_frame-requires
user_frame-requires c = subst (λ (told : UserState). IsWithinFrame (user_payload told)) (sym c.in_ok-told.ensures) c.requires

pub returns : goal.returns
returns c = subst (λ (told : UserState). IfOk c.user_frame.result (λ frame. frame ≡ user_frame told)) c.in_ok-told.ensures c.user_frame.ensures
