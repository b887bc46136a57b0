use Rattle.mum_outbox.proofs.Common.{rules}
use Rattle.mum_outbox.proofs.Forks.{gives_half}
use Rattle.mum_outbox.proofs.queue.Queue.share.Goals as goal

pub another-owner-requires-clause-rule : goal.another-owner-requires-clause-rule
another-owner-requires-clause-rule g c = gives_half _ _ _ (search rules)
