use Rattle.mum_outbox.proofs.Forks.{gives_number}
use Rattle.mum_outbox.proofs.queue.Queue.pass.Goals as goal

pub another-pass-requires-clause-rule : goal.another-pass-requires-clause-rule
another-pass-requires-clause-rule g c = gives_number _ _ _
