use Rattle.mum_io.proofs.Common.{◌≡◌, deque_len, due, with_rest}
use Rattle.mum_io.proofs.memory.link.read_events.Given as goal

abbrev pub invariant-loop-events : goal.invariant-loop-events
invariant-loop-events l = due (with_rest l.piece l.events.items) ≡ due (with_rest l.initial.piece l.initial.events.items)

abbrev pub decreases-loop-events : goal.decreases-loop-events
decreases-loop-events l = deque_len l.events
