use Rattle.mum_notify.proofs.Common.{◌≡◌, ◌++◌, take}
use Rattle.mum_notify.proofs.waiting.NoticeQueue.put_all.Given as goal

abbrev pub invariant-loop-i : goal.invariant-loop-i
invariant-loop-i l = l.self ≡ l.initial.self ++ take l.i l.told
