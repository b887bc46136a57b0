use Rattle.mum_keeper.proofs.Turning.{turn_shows}
use Rattle.mum_keeper.proofs.turns.items_are_kept.Goals as goal

pub returns : goal.returns
returns g c = λ old new answer turned is. turn_shows g.P.Keeper.facts old new answer turned is
