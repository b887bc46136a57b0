use Rattle.mum_keeper.proofs.Common.{subst, Observes, StoreFacts}
use Rattle.mum_keeper.proofs.store.Store.heed_note.Goals as goal

pub returns : goal.returns
returns g c = (
  c.learn.new.self.pass,
  c.learn.ensures.learnt,
  subst (λ (s : StoreFacts g.row.P.Denot). Observes g.P.Keeper.facts s c.observe.result c.observe.new.self) c.learn.ensures.same c.observe.ensures,
)
