use Rattle.mum_policy.proofs.Held.{entries_decide, last_decides}
use Rattle.mum_policy.proofs.laws.last_naming_entry_decides.Goals as goal

pub returns-clause-set : goal.returns-clause-set
returns-clause-set c = last_decides

pub returns-clause-answer : goal.returns-clause-answer
returns-clause-answer c = entries_decide
