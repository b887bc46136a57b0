use Rattle.mum_notify.proofs.Common.{rules, version_payload}
use Rattle.mum_notify.proofs.frames.version_frame.Goals as goal

pub frame_of-requires : goal.frame_of-requires
unfolding version_payload
frame_of-requires c = c.requires

pub returns : goal.returns
unfolding version_payload
returns c = search rules
