use Rattle.mum_keeper.proofs.Turning.{settled}
use Rattle.mum_keeper.proofs.turns.settled_rows_are_kept.Goals as goal

pub returns : goal.returns
returns g c = λ old new state settles. settled g.P.Keeper.facts old new state settles
