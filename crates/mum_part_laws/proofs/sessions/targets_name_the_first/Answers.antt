use Rattle.mum_part_laws.proofs.RosterLaws.{targets_lem}
use Rattle.mum_part_laws.proofs.sessions.targets_name_the_first.Goals as goal

pub returns : goal.returns
returns c = targets_lem
