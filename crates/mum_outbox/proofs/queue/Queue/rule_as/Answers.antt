use Rattle.mum_outbox.proofs.Common.{IsBefore}
use Rattle.mum_outbox.proofs.{Hands.pairs_front, Moments.learns}
use Rattle.mum_outbox.proofs.queue.Queue.rule_as.Goals as goal

pub learn_as-requires-clause-rule : goal.learn_as-requires-clause-rule
learn_as-requires-clause-rule g c = learns _ _ _

pub returns-clause-order : goal.returns-clause-order
returns-clause-order g c = let h = c.learn_as.ensures.rule.1 in rw (← c.pass.view_is) (pairs_front IsBefore _ h.0 (h.2.3.taken_in_order h.2.1 _ h.2.2))
