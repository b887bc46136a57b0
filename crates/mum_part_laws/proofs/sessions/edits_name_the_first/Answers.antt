use Rattle.mum_part_laws.proofs.RosterLaws.{edits_lem}
use Rattle.mum_part_laws.proofs.sessions.edits_name_the_first.Goals as goal

pub returns : goal.returns
returns c = edits_lem
