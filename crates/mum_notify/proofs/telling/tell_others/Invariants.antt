use Rattle.mum_notify.proofs.Common.{◌≡◌, ◌++◌, filter, not, take, has_number, to_each}
use Rattle.mum_notify.proofs.telling.tell_others.Given as goal

abbrev pub invariant-loop-user : goal.invariant-loop-user
invariant-loop-user l = l.list.items ≡ l.fn.list.items ++ to_each (filter (λ user. not (has_number l.session user)) (take l.user-index l.users)) l.frame
