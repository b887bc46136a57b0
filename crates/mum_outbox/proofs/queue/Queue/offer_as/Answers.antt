use Rattle.mum_outbox.proofs.Common.{rules}
use Rattle.mum_outbox.proofs.{Moments.learns, Offers.offers}
use Rattle.mum_outbox.proofs.queue.Queue.offer_as.Goals as goal

pub push_as-requires-clause-rule : goal.push_as-requires-clause-rule
push_as-requires-clause-rule g c = (offers _ _ _ _ _ (search rules), learns _ _ _)
