use Rattle.mum_exercise.proofs.Asking.{link_fits}
use Rattle.mum_exercise.proofs.acts.link_frame.Goals as goal

pub frame_of-requires : goal.frame_of-requires
frame_of-requires c = link_fits c.blank_channel-message.result c.in_ok-linked.linked c.args.channel.0 c.blank_channel-message.ensures c.in_ok-linked.ensures
