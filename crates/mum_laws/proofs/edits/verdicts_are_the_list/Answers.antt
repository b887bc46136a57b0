use Rattle.mum_laws.proofs.Deciding.{list_is, state_is, verdict_told}
use Rattle.mum_laws.proofs.edits.verdicts_are_the_list.Goals as goal

pub returns-clause-list : goal.returns-clause-list
returns-clause-list c = list_is

pub returns-clause-state : goal.returns-clause-state
returns-clause-state c = state_is

pub returns-clause-told : goal.returns-clause-told
returns-clause-told c = verdict_told
