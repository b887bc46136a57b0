use Rattle.mum_exercise.proofs.Common.{arith}
use Rattle.mum_exercise.proofs.Asking.{login_fits}
use Rattle.mum_exercise.proofs.acts.login_frame.Goals as goal

pub frame_of-requires : goal.frame_of-requires
frame_of-requires c = login_fits c.in_ok-user_name.field-0 c.new.result c.new-2.result c.args.number (omega arith) c.in_ok-user_name.ensures c.new.ensures c.new-2.ensures
