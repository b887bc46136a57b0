use Rattle.mum_notify.proofs.Common.{◌≡◌, map, take, flat_map, user_frame, user_difference}
use Rattle.mum_notify.proofs.users.differences.Given as goal

abbrev pub invariant-loop-user : goal.invariant-loop-user
invariant-loop-user l = l.frames.items ≡ map user_frame (flat_map (user_difference l.before l.edit l.after) (take l.user-index l.users))
