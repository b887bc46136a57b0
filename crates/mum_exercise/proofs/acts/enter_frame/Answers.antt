use Rattle.mum_exercise.proofs.Asking.{enter_fits}
use Rattle.mum_exercise.proofs.acts.enter_frame.Goals as goal

pub frame_of-requires : goal.frame_of-requires
frame_of-requires c = enter_fits c.blank_user-message.result c.args.channel.0 c.blank_user-message.ensures
