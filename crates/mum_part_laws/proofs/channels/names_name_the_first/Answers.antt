use Rattle.mum_part_laws.proofs.TreeLaws.{names_lem}
use Rattle.mum_part_laws.proofs.channels.names_name_the_first.Goals as goal

pub returns : goal.returns
returns c = names_lem
