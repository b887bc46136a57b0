use Rattle.mum_rights_laws.proofs.GrantedLast.{rights_are_by_lists_lem}
use Rattle.mum_rights_laws.proofs.rights.rights_are_by_lists.Goals as goal

pub returns : goal.returns
returns c = rights_are_by_lists_lem
