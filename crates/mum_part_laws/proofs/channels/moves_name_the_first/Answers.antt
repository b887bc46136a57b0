use Rattle.mum_part_laws.proofs.TreeLaws.{moves_lem}
use Rattle.mum_part_laws.proofs.channels.moves_name_the_first.Goals as goal

pub returns : goal.returns
returns c = moves_lem
