use Rattle.mum_notify.proofs.Common.{rules, permissions_payload}
use Rattle.mum_notify.proofs.Bounds.{permissions_within}
use Rattle.mum_notify.proofs.frames.permissions_frame.Goals as goal

pub frame_of-requires : goal.frame_of-requires
unfolding permissions_payload
frame_of-requires c = permissions_within c.args.message.now

pub returns : goal.returns
unfolding permissions_payload
returns c = search rules
