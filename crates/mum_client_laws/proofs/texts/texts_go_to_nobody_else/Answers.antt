use Rattle.mum_client_laws.proofs.Meant.{texts_go_to_nobody_else_lem}
use Rattle.mum_client_laws.proofs.texts.texts_go_to_nobody_else.Goals as goal

pub returns : goal.returns
returns c = texts_go_to_nobody_else_lem
