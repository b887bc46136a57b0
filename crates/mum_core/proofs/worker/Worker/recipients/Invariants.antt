use Rattle.mum_core.proofs.Common.{◌≡◌, ◌++◌, map, deque_iter_rest, Outgoing}
use Rattle.mum_core.proofs.worker.Worker.recipients.Given as goal

-- those so far and those to come are all of them
abbrev pub invariant-loop-copy : goal.invariant-loop-copy
invariant-loop-copy l = l.sessions.items ++ map (λ (copy : Outgoing). copy.to) (deque_iter_rest l.copy-iterator) ≡ map (λ (copy : Outgoing). copy.to) l.self.copies
