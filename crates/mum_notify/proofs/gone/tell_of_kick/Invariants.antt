use Rattle.mum_notify.proofs.Common.{◌≡◌, ◌++◌, map, take, last_parcel}
use Rattle.mum_notify.proofs.gone.tell_of_kick.Given as goal

abbrev pub invariant-loop-user : goal.invariant-loop-user
invariant-loop-user l = l.list.items ≡ l.fn.list.items ++ map (last_parcel l.session l.frame) (take l.user-index l.users)
