use Rattle.mum_part_laws.proofs.ChangeLaws.{changes_lem}
use Rattle.mum_part_laws.proofs.channels.changes_name_the_first.Goals as goal

pub returns : goal.returns
returns c = changes_lem
