use Rattle.mum_outbox.proofs.Common.{rules, [], refl}
use Rattle.mum_outbox.proofs.queue.Queue.named.Goals as goal

pub ruled-requires-clause-rule : goal.ruled-requires-clause-rule
ruled-requires-clause-rule g c = ([], refl, search rules)
