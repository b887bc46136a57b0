use Rattle.mum_notify.proofs.Common.{◌≡◌, ◌++◌, map, take, permission_parcel}
use Rattle.mum_notify.proofs.texts.tell_permissions.Given as goal

abbrev pub invariant-loop-user : goal.invariant-loop-user
invariant-loop-user l = l.list.items ≡ l.fn.list.items ++ map (permission_parcel l.state) (take l.user-index l.users)
