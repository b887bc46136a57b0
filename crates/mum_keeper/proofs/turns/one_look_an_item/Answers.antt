use Rattle.mum_keeper.proofs.Turning.{all_stand}
use Rattle.mum_keeper.proofs.turns.one_look_an_item.Goals as goal

pub returns-clause-looks : goal.returns-clause-looks
returns-clause-looks g c = λ turns store run. (all_stand g.P.Keeper.facts turns store run).looks

pub returns-clause-asks : goal.returns-clause-asks
returns-clause-asks g c = λ turns store run. (all_stand g.P.Keeper.facts turns store run).asks
