use Rattle.mum_notify.proofs.Common.{◌≡◌, ◌++◌, take, to_each}
use Rattle.mum_notify.proofs.parcels.tell_each.Given as goal

abbrev pub invariant-loop-user : goal.invariant-loop-user
invariant-loop-user l = l.list.items ≡ l.fn.list.items ++ to_each (take l.user-index l.users) l.frame
