use Rattle.mum_notify.proofs.Common.{rules, channel_payload}
use Rattle.mum_notify.proofs.frames.channel_frame.Goals as goal

pub frame_of-requires : goal.frame_of-requires
unfolding channel_payload
frame_of-requires c = c.requires

pub returns : goal.returns
unfolding channel_payload
returns c = search rules
