use Rattle.mum_outbox.proofs.Common.{not, ap, ◌∙◌}
use Rattle.mum_outbox.proofs.{Moments.learns, Moments.taken_so, Takes.takes}
use Rattle.mum_outbox.proofs.queue.Queue.take_as.Goals as goal

pub pop_as-taken-requires-clause-rule : goal.pop_as-taken-requires-clause-rule
pop_as-taken-requires-clause-rule g c = (takes _ _ _, learns _ _ _)

pub returns-else-is_none : goal.returns-else-is_none
returns-else-is_none g c =
    rw (← c.pass.view_is) (taken_so _ _ _ _ _ c.pop_as-taken.result (c.is_none.ensures ∙ ap not c.if-is_none.false) c.pop_as-taken.ensures.queue.0 c.pass.invariant.1 c.pop_as-taken.ensures.rule)
