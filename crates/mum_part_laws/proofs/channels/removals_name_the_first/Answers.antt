use Rattle.mum_part_laws.proofs.TreeLaws.{removals_lem}
use Rattle.mum_part_laws.proofs.channels.removals_name_the_first.Goals as goal

pub returns : goal.returns
returns c = removals_lem
