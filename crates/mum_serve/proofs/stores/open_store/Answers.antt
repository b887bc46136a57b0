-- The passes that are left are as fresh as they were.
use Rattle.mum_serve.proofs.Viewing.{others_are_fresh}
use Rattle.mum_serve.proofs.stores.open_store.Goals as goal

pub returns-in-Ok-open-clause-fresh : goal.returns-in-Ok-open-clause-fresh
returns-in-Ok-open-clause-fresh g c = others_are_fresh g.N.Naming.opening c.args.passes.now.items c.pop.new.self.items _ c.pop.ensures.rest c.requires.fresh
