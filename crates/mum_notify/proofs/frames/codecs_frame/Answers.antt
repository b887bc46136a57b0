use Rattle.mum_notify.proofs.Common.{rules, codecs_payload}
use Rattle.mum_notify.proofs.Bounds.{codecs_within}
use Rattle.mum_notify.proofs.frames.codecs_frame.Goals as goal

pub frame_of-requires : goal.frame_of-requires
unfolding codecs_payload
frame_of-requires c = codecs_within c.args.message.now

pub returns : goal.returns
unfolding codecs_payload
returns c = search rules
