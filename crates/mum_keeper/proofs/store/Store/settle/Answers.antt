use Rattle.mum_keeper.proofs.Common.{ap, subst, kept, KeptRows, Compares, MirrorFacts, StoreFacts}
use Rattle.mum_keeper.proofs.Observing.{starves}
use Rattle.mum_keeper.proofs.store.Store.settle.Goals as goal

pub compare-requires : goal.compare-requires
compare-requires g c = c.in-Ok.ensures.1

pub returns-in-Ok-clause-settles : goal.returns-in-Ok-clause-settles
returns-in-Ok-clause-settles g c =
    subst (λ (m : MirrorFacts g.row.P.Denot). Compares g.P.Keeper.facts m (kept c.args.state.now) c.compare.result c.compare.new.self)
    (ap (λ (s : StoreFacts g.row.P.Denot). s.mirror) c.self.view_is)
    (subst (λ (rows : KeptRows). Compares g.P.Keeper.facts c.self.inside.mirror rows c.compare.result c.compare.new.self) c.in-Ok.ensures.0 c.compare.ensures)

pub returns-in-Err-clause-settles : goal.returns-in-Err-clause-settles
returns-in-Err-clause-settles g c =
    subst (λ (m : MirrorFacts g.row.P.Denot). Compares g.P.Keeper.facts m (kept c.args.state.now) c.starve.result c.starve.new.self)
    (ap (λ (s : StoreFacts g.row.P.Denot). s.mirror) c.self.view_is)
    (starves g.P.Keeper.facts c.self.inside.mirror c.starve.new.self (kept c.args.state.now) c.starve.result c.starve.ensures.end c.starve.ensures.starved)
