use Rattle.mum_keeper.proofs.Turning.{done, idle, worked}
use Rattle.mum_keeper.proofs.turns.answers_have_causes.Goals as goal

pub returns-clause-idle : goal.returns-clause-idle
returns-clause-idle g c = λ old new turned. idle g.P.Keeper.facts old new turned

pub returns-clause-worked : goal.returns-clause-worked
returns-clause-worked g c = λ old new turned. worked g.P.Keeper.facts old new turned

pub returns-clause-done : goal.returns-clause-done
returns-clause-done g c = λ turns old new answer run turned. done g.P.Keeper.facts turns old new answer run turned
