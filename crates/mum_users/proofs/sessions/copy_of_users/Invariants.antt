use Rattle.mum_users.proofs.Common.{◌≡◌, take}
use Rattle.mum_users.proofs.sessions.copy_of_users.Given as goal

abbrev pub invariant-loop-user : goal.invariant-loop-user
invariant-loop-user l = l.copies.items ≡ take l.user-index l.users
