use Rattle.mum_notify.proofs.Common.{rules, user_payload}
use Rattle.mum_notify.proofs.frames.user_frame.Goals as goal

pub frame_of-requires : goal.frame_of-requires
unfolding user_payload
frame_of-requires c = c.requires

pub returns : goal.returns
unfolding user_payload
returns c = search rules
