use Rattle.mum_rights_laws.proofs.ResidentLaws.{nobody_comes_or_goes_lem, residents_keep_their_own_lem, the_server_stays_lem}
use Rattle.mum_rights_laws.proofs.changes.the_others_stand.Goals as goal

pub returns-clause-own : goal.returns-clause-own
returns-clause-own c = residents_keep_their_own_lem

pub returns-clause-who : goal.returns-clause-who
returns-clause-who c = nobody_comes_or_goes_lem

pub returns-clause-settings : goal.returns-clause-settings
returns-clause-settings c = the_server_stays_lem
