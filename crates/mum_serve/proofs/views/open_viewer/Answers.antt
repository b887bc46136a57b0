-- The passes that are left are as fresh as they were.
use Rattle.mum_serve.proofs.Viewing.{others_are_fresh}
use Rattle.mum_serve.proofs.views.open_viewer.Goals as goal

pub returns-clause-fresh : goal.returns-clause-fresh
returns-clause-fresh g c = others_are_fresh g.N.Naming.opening c.args.passes.now.items c.pop.new.self.items _ c.pop.ensures.rest c.requires.fresh
