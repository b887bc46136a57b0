use Rattle.mum_notify.proofs.Common.{◌≡◌, take, children_of}
use Rattle.mum_notify.proofs.children.children_of.Given as goal

abbrev pub invariant-loop-id : goal.invariant-loop-id
invariant-loop-id l = l.listed.items ≡ children_of l.tree (take l.id-index l.ids)
