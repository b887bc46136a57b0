use Rattle.mum_viewer.proofs.Common.{ap, ◌∙◌, view, user_object}
use Rattle.mum_viewer.proofs.Lists.{seen_at}
use Rattle.mum_viewer.proofs.text.user_list.Goals as goal

pub loop-user-preserved : goal.loop-user-preserved
loop-user-preserved c =
    seen_at view user_object c.args.users.now c.loop-user.user-index c.user-item.result c.loop-user.objects.items _ c.in_ok-user_object.field-0
    c.loop-user-test.true c.loop-user.invariant c.in_ok-push.ensures.items (c.in_ok-user_object.ensures ∙ ap user_object c.user-item.is)
