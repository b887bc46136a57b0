use Rattle.mum_recording_laws.proofs.Existing.{legal_journals_lem}
use Rattle.mum_recording_laws.proofs.laws.legal_journals_are_of_runs.Goals as goal

pub returns : goal.returns
returns c = legal_journals_lem c.hearers_are_the_route.ensures.members
