use Rattle.mum_laws.proofs.Heading.{behind_head, every_input}
use Rattle.mum_laws.proofs.recordings.transcripts_are_runs.Goals as goal

pub returns-clause-every : goal.returns-clause-every
returns-clause-every c = every_input

pub returns-clause-behind_a_head : goal.returns-clause-behind_a_head
returns-clause-behind_a_head c = behind_head
