use Rattle.mum_policy.proofs.Common.{◌≡◌, length, understood, understood_after}
use Rattle.mum_policy.proofs.name.understand.Given as goal

abbrev pub invariant-prefixes : goal.invariant-prefixes
invariant-prefixes l = understood_after l.negated l.at_acl l.rest ≡ understood l.name

abbrev pub decreases-prefixes : goal.decreases-prefixes
decreases-prefixes l = length l.rest
