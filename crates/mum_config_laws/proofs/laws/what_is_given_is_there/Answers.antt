use Rattle.mum_config_laws.proofs.Opening.{what_is_given_is_there_lem}
use Rattle.mum_config_laws.proofs.laws.what_is_given_is_there.Goals as goal

pub returns : goal.returns
returns c = what_is_given_is_there_lem
