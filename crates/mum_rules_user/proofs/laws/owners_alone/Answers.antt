use Rattle.mum_rules_user.proofs.Firsts.{owners_alone_lem}
use Rattle.mum_rules_user.proofs.laws.owners_alone.Goals as goal

pub returns : goal.returns
returns c = owners_alone_lem
