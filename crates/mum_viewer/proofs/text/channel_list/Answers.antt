use Rattle.mum_viewer.proofs.Common.{ap, ◌∙◌, view, channel_object}
use Rattle.mum_viewer.proofs.Lists.{seen_at}
use Rattle.mum_viewer.proofs.text.channel_list.Goals as goal

pub loop-channel-preserved : goal.loop-channel-preserved
loop-channel-preserved c =
    seen_at view channel_object c.args.channels.now c.loop-channel.channel-index c.channel-item.result c.loop-channel.objects.items _ c.in_ok-channel_object.field-0
    c.loop-channel-test.true c.loop-channel.invariant c.in_ok-push.ensures.items (c.in_ok-channel_object.ensures ∙ ap channel_object c.channel-item.is)
