use Rattle.mum_policy.proofs.Digits.{IsNumberSoFar}
use Rattle.mum_policy.proofs.subtree.number.Given as goal

abbrev pub invariant-places : goal.invariant-places
invariant-places l = IsNumberSoFar l.digits l.place l.number
