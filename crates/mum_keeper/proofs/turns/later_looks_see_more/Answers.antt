use Rattle.mum_keeper.proofs.Turning.{sees_more}
use Rattle.mum_keeper.proofs.turns.later_looks_see_more.Goals as goal

pub returns : goal.returns
returns g c = λ turns old new all. sees_more g.P.Keeper.facts turns old new all
