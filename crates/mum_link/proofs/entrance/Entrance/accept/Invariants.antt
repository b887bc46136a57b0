use Rattle.mum_link.proofs.Common.{◌≡◌}
use Rattle.mum_link.proofs.entrance.Entrance.accept.Given as goal

abbrev pub invariant-loop : goal.invariant-loop
invariant-loop g l =
    (l.self.has_headers ≡ l.fn.self.has_headers) × (l.self.step ≡ l.fn.self.step) × (l.self.arrivals ≡ l.fn.self.arrivals)
    × (l.self.waiting ≡ l.fn.self.waiting)
