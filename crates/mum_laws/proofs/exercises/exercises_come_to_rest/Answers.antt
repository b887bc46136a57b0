use Rattle.mum_laws.proofs.Whole.{exercise_rests}
use Rattle.mum_laws.proofs.exercises.exercises_come_to_rest.Goals as goal

pub returns : goal.returns
returns c = exercise_rests
