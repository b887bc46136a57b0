use Rattle.mum_client_laws.proofs.Listening.{newcomers_know_what_is_lem, who_joins_knows_what_is_lem}
use Rattle.mum_client_laws.proofs.clients.newcomers_know_what_is.Goals as goal

pub returns-clause-block : goal.returns-clause-block
returns-clause-block c = newcomers_know_what_is_lem

pub returns-clause-joins : goal.returns-clause-joins
returns-clause-joins c = who_joins_knows_what_is_lem
