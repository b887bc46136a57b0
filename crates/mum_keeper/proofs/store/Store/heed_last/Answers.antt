use Rattle.mum_keeper.proofs.Common.{subst, Observes, StoreFacts}
use Rattle.mum_keeper.proofs.store.Store.heed_last.Goals as goal

pub returns : goal.returns
returns g c = subst (λ (s : StoreFacts g.row.P.Denot). Observes g.P.Keeper.facts s c.observe.result c.observe.new.self) c.end.ensures c.observe.ensures
