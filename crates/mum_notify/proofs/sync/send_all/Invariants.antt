use Rattle.mum_notify.proofs.Common.{◌≡◌, ◌++◌, map, take, parcel}
use Rattle.mum_notify.proofs.sync.send_all.Given as goal

abbrev pub invariant-loop-frame : goal.invariant-loop-frame
invariant-loop-frame l = l.list.items ≡ l.fn.list.items ++ map (λ frame. parcel frame l.user) (take l.frame-index l.frames)
