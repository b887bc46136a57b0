use Rattle.mum_laws.proofs.Whole.{exercise_whole}
use Rattle.mum_laws.proofs.exercises.exercises_leave_no_step_out.Goals as goal

pub returns : goal.returns
returns c = exercise_whole
