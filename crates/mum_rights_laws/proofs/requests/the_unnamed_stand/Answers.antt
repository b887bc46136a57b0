use Rattle.mum_rights_laws.proofs.UserRequestLaws.{other_targets_stand_lem, the_unnamed_stand_lem}
use Rattle.mum_rights_laws.proofs.requests.the_unnamed_stand.Goals as goal

pub returns-clause-sessions : goal.returns-clause-sessions
returns-clause-sessions c = the_unnamed_stand_lem

pub returns-clause-targets : goal.returns-clause-targets
returns-clause-targets c = other_targets_stand_lem
