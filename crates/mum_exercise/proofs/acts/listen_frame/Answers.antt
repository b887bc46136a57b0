use Rattle.mum_exercise.proofs.Asking.{listen_fits}
use Rattle.mum_exercise.proofs.acts.listen_frame.Goals as goal

pub frame_of-requires : goal.frame_of-requires
frame_of-requires c = listen_fits c.blank_user-message.result c.in_ok-listened.listened c.args.channel.0 c.blank_user-message.ensures c.in_ok-listened.ensures
