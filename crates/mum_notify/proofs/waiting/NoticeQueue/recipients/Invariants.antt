use Rattle.mum_notify.proofs.Common.{◌≡◌, ◌++◌, map, deque_iter_rest, Notice}
use Rattle.mum_notify.proofs.waiting.NoticeQueue.recipients.Given as goal

-- those so far and those to come are all of them
abbrev pub invariant-loop-notice : goal.invariant-loop-notice
invariant-loop-notice l = l.sessions.items ++ map (λ (notice : Notice). notice.to) (deque_iter_rest l.notice-iterator) ≡ map (λ (notice : Notice). notice.to) l.self
