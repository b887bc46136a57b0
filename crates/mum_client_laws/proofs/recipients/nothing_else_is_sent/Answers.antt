use Rattle.mum_client_laws.proofs.AllDue.{nothing_else_is_sent_lem}
use Rattle.mum_client_laws.proofs.recipients.nothing_else_is_sent.Goals as goal

pub returns : goal.returns
returns c = nothing_else_is_sent_lem
