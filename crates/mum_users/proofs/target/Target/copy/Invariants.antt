use Rattle.mum_users.proofs.Common.{◌≡◌, take}
use Rattle.mum_users.proofs.target.Target.copy.Given as goal

abbrev pub invariant-loop-item : goal.invariant-loop-item
invariant-loop-item l = l.items.items ≡ take l.item-index l.item-items
