use Rattle.mum_part_laws.proofs.NameLaws.{prefixes_are_read_lem}
use Rattle.mum_part_laws.proofs.groups.prefixes_are_read.Goals as goal

pub returns : goal.returns
returns c = prefixes_are_read_lem
