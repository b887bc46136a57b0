use Rattle.mum_notify.proofs.Common.{◌≡◌, ℕ, ◌++◌, ◌∙◌, List, ap, subst, OnOk, to_each, user_gone_frame}
use Rattle.mum_notify.proofs.Within.{left_fits}
use Rattle.mum_notify.proofs.gone.tell_of_leave.Goals as goal

pub user_gone_frame-requires : goal.user_gone_frame-requires
user_gone_frame-requires c = left_fits c.args.session c.user_left-told.result c.user_left-told.ensures

pub returns : goal.returns
returns c =
    subst (λ (frame : List ℕ). OnOk c.tell_each.result (c.tell_each.new.list.items ≡ c.args.list.now.items ++ to_each c.args.users.now frame)) (c.in_ok-frame.ensures ∙ ap user_gone_frame c.user_left-told.ensures) c.tell_each.ensures
