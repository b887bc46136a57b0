use Rattle.mum_published.proofs.Common.{◌≡◌}
use Rattle.mum_published.proofs.ledger.Ledger.put.Given as goal

-- nothing was added so far
abbrev pub invariant-loop : goal.invariant-loop
invariant-loop g l =
    (goal.iterator-loop g).can_next l.iterator' × (goal.iterator-loop g).is_finite l.iterator' × (l.self ≡ l.fn.self)
