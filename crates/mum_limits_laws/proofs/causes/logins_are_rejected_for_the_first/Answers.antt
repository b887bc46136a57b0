use Rattle.mum_limits_laws.proofs.LoginLaws.{nobody_comes_lem, rejections_lem}
use Rattle.mum_limits_laws.proofs.causes.logins_are_rejected_for_the_first.Goals as goal

pub returns-clause-rejected : goal.returns-clause-rejected
returns-clause-rejected c = rejections_lem

pub returns-clause-accepted : goal.returns-clause-accepted
returns-clause-accepted c = nobody_comes_lem
