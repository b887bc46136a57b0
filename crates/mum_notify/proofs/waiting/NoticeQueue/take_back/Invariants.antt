use Rattle.mum_notify.proofs.Common.{◌≡◌, ◌-◌, length, take}
use Rattle.mum_notify.proofs.waiting.NoticeQueue.take_back.Given as goal

abbrev pub invariant-loop-taken : goal.invariant-loop-taken
invariant-loop-taken l = l.self ≡ take (length l.initial.self - l._taken) l.initial.self
