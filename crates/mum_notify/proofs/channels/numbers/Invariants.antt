use Rattle.mum_notify.proofs.Common.{◌≡◌, take, numbers}
use Rattle.mum_notify.proofs.channels.numbers.Given as goal

abbrev pub invariant-loop-id : goal.invariant-loop-id
invariant-loop-id l = l.listed.items ≡ numbers (take l.id-index l.ids)
