use Rattle.mum_notify.proofs.Common.{◌≡◌, subst, sym, IfOk, ChannelState, IsWithinFrame, channel_frame, channel_payload}
use Rattle.mum_notify.proofs.channels.frame_of_channel.Goals as goal

pub channel_frame-requires : goal.channel_frame-requires
channel_frame-requires c = subst (λ (told : ChannelState). IsWithinFrame (channel_payload told)) (sym c.in_ok-told.ensures) c.requires

pub returns : goal.returns
returns c = subst (λ (told : ChannelState). IfOk c.channel_frame.result (λ frame. frame ≡ channel_frame told)) c.in_ok-told.ensures c.channel_frame.ensures
