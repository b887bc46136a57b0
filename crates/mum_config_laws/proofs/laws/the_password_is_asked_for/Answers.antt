use Rattle.mum_config_laws.proofs.Asking.{the_password_is_asked_for_lem}
use Rattle.mum_config_laws.proofs.laws.the_password_is_asked_for.Goals as goal

pub returns : goal.returns
returns c = the_password_is_asked_for_lem
