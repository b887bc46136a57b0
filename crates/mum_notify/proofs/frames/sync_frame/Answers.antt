use Rattle.mum_notify.proofs.Common.{rules, sync_payload}
use Rattle.mum_notify.proofs.frames.sync_frame.Goals as goal

pub frame_of-requires : goal.frame_of-requires
unfolding sync_payload
frame_of-requires c = c.requires

pub returns : goal.returns
unfolding sync_payload
returns c = search rules
