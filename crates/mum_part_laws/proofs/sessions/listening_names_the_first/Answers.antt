use Rattle.mum_part_laws.proofs.RosterLaws.{listening_lem}
use Rattle.mum_part_laws.proofs.sessions.listening_names_the_first.Goals as goal

pub returns : goal.returns
returns c = listening_lem
