use Rattle.mum_link.proofs.Common.{◌≡◌, vec_len}
use Rattle.mum_link.proofs.entrance.Entrance.close_waiting.Given as goal

abbrev pub invariant-loop-waiting : goal.invariant-loop-waiting
invariant-loop-waiting g l =
    (l.self.has_headers ≡ l.fn.self.has_headers) × (l.self.step ≡ l.fn.self.step) × (l.self.arrivals ≡ l.fn.self.arrivals)

abbrev pub decreases-loop-waiting : goal.decreases-loop-waiting
decreases-loop-waiting g l = vec_len l.self.waiting
