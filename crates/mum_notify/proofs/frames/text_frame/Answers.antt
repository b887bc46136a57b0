use Rattle.mum_notify.proofs.Common.{rules, text_payload}
use Rattle.mum_notify.proofs.frames.text_frame.Goals as goal

pub frame_of-requires : goal.frame_of-requires
unfolding text_payload
frame_of-requires c = c.requires

pub returns : goal.returns
unfolding text_payload
returns c = search rules
