use Rattle.mum_keeper.proofs.map_keeper.MapKeeperKeeper.keep.Goals as goal

pub returns-then-begin-clause-counts : goal.returns-then-begin-clause-counts
returns-then-begin-clause-counts c = c.begin.ensures.rose c.if-begin.true
