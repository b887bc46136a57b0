use Rattle.mum_notify.proofs.Common.{◌≡◌, filter, take, is_told_gone}
use Rattle.mum_notify.proofs.gone.told_gone.Given as goal

abbrev pub invariant-loop-id : goal.invariant-loop-id
invariant-loop-id l = l.gone.items ≡ filter (is_told_gone l.top l.before l.after) (take l.id-index l.ids)
