use Rattle.mum_keeper.proofs.Comparing.{mirror_on}
use Rattle.mum_keeper.proofs.mirror.Mirror.compare.Goals as goal

pub bring-end-requires-clause-rows : goal.bring-end-requires-clause-rows
bring-end-requires-clause-rows g c = c.self.invariant.mirrors

pub invariant_of-self : goal.invariant_of-self
invariant_of-self g c =
    mirror_on g.P.Keeper.facts g.N.Keeping.keeper c.self.inside.keeper c.bring-end.new.keeper c.self.inside.rows c.args.now c.take_over.new.rows c.self.inside.failed c.has_failed-self-inside.result
    c.self.inside.no_memory c.bring-end.result c.self.invariant c.requires c.bring-end.ensures c.take_over.ensures c.has_failed-self-inside.ensures
