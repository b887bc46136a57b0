use Rattle.mum_rights_laws.proofs.TargetLaws.{targets_are_done_lem}
use Rattle.mum_rights_laws.proofs.requests.targets_are_done.Goals as goal

pub returns : goal.returns
returns c = targets_are_done_lem
