use Rattle.mum_client_laws.proofs.Listening.{who_stays_knows_what_is_lem}
use Rattle.mum_client_laws.proofs.clients.who_stays_knows_what_is.Goals as goal

pub returns : goal.returns
returns c = who_stays_knows_what_is_lem
