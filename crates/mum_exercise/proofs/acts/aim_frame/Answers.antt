use Rattle.mum_exercise.proofs.Common.{refl}
use Rattle.mum_exercise.proofs.Asking.{aim_fits}
use Rattle.mum_exercise.proofs.acts.aim_frame.Goals as goal

pub frame_of-requires : goal.frame_of-requires
frame_of-requires c = aim_fits _ c.in_ok-one.field-0 c.new.result c.args.channel.0 refl c.new.ensures c.in_ok-one.ensures
