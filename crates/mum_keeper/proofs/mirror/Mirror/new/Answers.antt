use Rattle.mum_keeper.proofs.Comparing.{new_is_mirror}
use Rattle.mum_keeper.proofs.mirror.Mirror.new.Goals as goal

pub invariant_of-result : goal.invariant_of-result
invariant_of-result g c = new_is_mirror g.N.Keeping.keeper (g.P.Keeper.facts c.args.keeper) c.args.rows c.requires.keeper c.requires.rows
