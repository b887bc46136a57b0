use Rattle.mum_part_laws.proofs.RosterLaws.{joins_lem}
use Rattle.mum_part_laws.proofs.sessions.joins_name_the_first.Goals as goal

pub returns : goal.returns
returns c = joins_lem
