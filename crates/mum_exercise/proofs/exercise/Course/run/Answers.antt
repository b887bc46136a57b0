use Rattle.mum_exercise.proofs.Common.{ap, ◌∙◌, on_ok_weaker, End, CourseValue, exercised, taken}
use Rattle.mum_exercise.proofs.exercise.Course.run.Goals as goal

pub returns : goal.returns
unfolding exercised
returns c = on_ok_weaker c.take.result (λ is. is ∙ ap (λ (course : CourseValue). taken course End) c.in_ok-play_all.ensures) c.take.ensures
