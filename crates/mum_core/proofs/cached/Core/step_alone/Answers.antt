use Rattle.mum_core.proofs.Common.{refl, inl, inr}
use Rattle.mum_core.proofs.Answered.{alone_gives}
use Rattle.mum_core.proofs.cached.Core.step_alone.Goals as goal

pub returns-in-Ok-clause-state : goal.returns-in-Ok-clause-state
returns-in-Ok-clause-state c = inr (alone_gives c.args.self.now.state c.step_into.new.self.state c.args.step.now c.step_into.result c.requires.alone c.step_into.ensures.state)

pub returns-in-Err-clause-state : goal.returns-in-Err-clause-state
returns-in-Err-clause-state c = inl (refl, refl)
