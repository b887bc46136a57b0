use Rattle.mum_viewer.proofs.Common.{◌∷◌, [], ◌++◌, ap, ◌∙◌, shown_user, ShownUser}
use Rattle.mum_viewer.proofs.Lists.{mapped_at}
use Rattle.mum_viewer.proofs.picture.shown_users.Goals as goal

pub loop-user-preserved : goal.loop-user-preserved
loop-user-preserved c =
    let is = c.in_ok-shown_user.ensures ∙ ap (shown_user c.args.roster.now) c.user-item.is in
    mapped_at (shown_user c.args.roster.now) c.args.users.now c.loop-user.user-index c.user-item.result c.loop-user.shown.items _ c.loop-user-test.true c.loop-user.invariant
    (c.in_ok-push.ensures.items ∙ ap (λ (shown : ShownUser). c.loop-user.shown.items ++ shown ∷ []) is)
