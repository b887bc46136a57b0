use Rattle.mum_viewer.proofs.Common.{◌≡◌, map, take, shown_user}
use Rattle.mum_viewer.proofs.picture.shown_users.Given as goal

abbrev pub invariant-loop-user : goal.invariant-loop-user
invariant-loop-user l = l.shown.items ≡ map (shown_user l.roster) (take l.user-index l.users)
