use Rattle.mum_notify.proofs.Common.{◌≡◌, ◌++◌, map, take, user_frame, user_told}
use Rattle.mum_notify.proofs.sync.tell_users.Given as goal

abbrev pub invariant-loop-user : goal.invariant-loop-user
invariant-loop-user l = l.frames.items ≡ l.fn.frames.items ++ map (λ user. user_frame (user_told l.state.roster user)) (take l.user-index l.users)
