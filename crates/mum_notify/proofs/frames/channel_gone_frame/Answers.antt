use Rattle.mum_notify.proofs.Common.{rules, channel_gone_payload}
use Rattle.mum_notify.proofs.Bounds.{channel_gone_within}
use Rattle.mum_notify.proofs.frames.channel_gone_frame.Goals as goal

pub frame_of-requires : goal.frame_of-requires
unfolding channel_gone_payload
frame_of-requires c = channel_gone_within c.args.message.now

pub returns : goal.returns
unfolding channel_gone_payload
returns c = search rules
