use Rattle.mum_part_laws.proofs.TreeLaws.{links_lem}
use Rattle.mum_part_laws.proofs.channels.links_name_the_first.Goals as goal

pub returns : goal.returns
returns c = links_lem
