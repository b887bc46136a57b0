use Rattle.mum_viewer.proofs.Common.{◌≡◌, map, take, view, user_object}
use Rattle.mum_viewer.proofs.text.user_list.Given as goal

abbrev pub invariant-loop-user : goal.invariant-loop-user
invariant-loop-user l = map view l.objects.items ≡ map user_object (take l.user-index l.users)
