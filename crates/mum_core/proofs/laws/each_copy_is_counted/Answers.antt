use Rattle.mum_core.proofs.{Counts.copies_are_counted, Drains.copies_are_drained}
use Rattle.mum_core.proofs.laws.each_copy_is_counted.Goals as goal

pub returns-clause-offered : goal.returns-clause-offered
returns-clause-offered c = copies_are_counted

pub returns-clause-drained : goal.returns-clause-drained
returns-clause-drained c = copies_are_drained
