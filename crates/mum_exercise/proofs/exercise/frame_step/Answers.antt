use Rattle.mum_exercise.proofs.Common.{List, ℕ, ◌<◌, subst, arith, slice_index}
use Rattle.mum_exercise.proofs.exercise.frame_step.Goals as goal

pub returns-clause-recordable : goal.returns-clause-recordable
returns-clause-recordable c = ((omega arith, subst (λ (x : List ℕ). (place : ℕ) → slice_index x place < 256) c.as_slice.ensures c.are_bytes.ensures), c.requires)
