use Rattle.mum_keeper.proofs.Turning.{failed_stays, starved_stays}
use Rattle.mum_keeper.proofs.turns.failures_stay.Goals as goal

pub returns-clause-failed : goal.returns-clause-failed
returns-clause-failed g c = λ old new answer turned is. failed_stays g.P.Keeper.facts old new answer turned is

pub returns-clause-no_memory : goal.returns-clause-no_memory
returns-clause-no_memory g c = λ old new answer turned is. starved_stays g.P.Keeper.facts old new answer turned is
