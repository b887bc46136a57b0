use Rattle.mum_keeper.proofs.Turning.{all_stand}
use Rattle.mum_keeper.proofs.turns.compared_rows_are_the_keepers.Goals as goal

pub returns : goal.returns
returns g c = λ turns store run. (all_stand g.P.Keeper.facts turns store run).is_told
