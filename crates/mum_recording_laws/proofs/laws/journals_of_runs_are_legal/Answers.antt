use Rattle.mum_recording_laws.proofs.Recording.{journals_of_runs_lem}
use Rattle.mum_recording_laws.proofs.laws.journals_of_runs_are_legal.Goals as goal

pub returns : goal.returns
returns c = journals_of_runs_lem c.hearers_are_the_route.ensures.members
