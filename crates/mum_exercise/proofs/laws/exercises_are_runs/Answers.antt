use Rattle.mum_exercise.proofs.Courses.{exercise_goes}
use Rattle.mum_exercise.proofs.laws.exercises_are_runs.Goals as goal

pub returns-clause-allowed : goal.returns-clause-allowed
returns-clause-allowed c = λ seed rounds. (exercise_goes seed rounds).allowed

pub returns-clause-led : goal.returns-clause-led
returns-clause-led c = λ seed rounds. (exercise_goes seed rounds).led
