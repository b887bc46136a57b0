use Rattle.mum_limits_laws.proofs.RefusalUserLaws.{kicks_lem, targets_lem, texts_lem, user_changes_lem}
use Rattle.mum_limits_laws.proofs.user_denials.user_refusals_name_the_first.Goals as goal

pub returns-clause-changed : goal.returns-clause-changed
returns-clause-changed c = user_changes_lem

pub returns-clause-kicked : goal.returns-clause-kicked
returns-clause-kicked c = kicks_lem

pub returns-clause-written : goal.returns-clause-written
returns-clause-written c = texts_lem

pub returns-clause-targets : goal.returns-clause-targets
returns-clause-targets c = targets_lem
