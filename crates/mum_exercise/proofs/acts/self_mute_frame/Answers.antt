use Rattle.mum_exercise.proofs.Asking.{self_mute_fits}
use Rattle.mum_exercise.proofs.acts.self_mute_frame.Goals as goal

pub frame_of-requires : goal.frame_of-requires
frame_of-requires c = self_mute_fits c.blank_user-message.result c.args.muted c.blank_user-message.ensures
