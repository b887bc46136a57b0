use Rattle.mum_config_laws.proofs.Opening.{nothing_else_is_there_lem}
use Rattle.mum_config_laws.proofs.laws.nothing_else_is_there.Goals as goal

pub returns : goal.returns
returns c = nothing_else_is_there_lem
