use Rattle.mum_notify.proofs.Common.{◌≡◌, ◌++◌, take, all_to_each}
use Rattle.mum_notify.proofs.parcels.tell_all.Given as goal

abbrev pub invariant-loop-frame : goal.invariant-loop-frame
invariant-loop-frame l = l.list.items ≡ l.fn.list.items ++ all_to_each l.users (take l.frame-index l.frames)
