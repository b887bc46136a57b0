use Rattle.mum_notify.proofs.Common.{rules, user_gone_payload}
use Rattle.mum_notify.proofs.frames.user_gone_frame.Goals as goal

pub frame_of-requires : goal.frame_of-requires
unfolding user_gone_payload
frame_of-requires c = c.requires

pub returns : goal.returns
unfolding user_gone_payload
returns c = search rules
