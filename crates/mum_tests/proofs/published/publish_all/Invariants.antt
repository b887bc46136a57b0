use Rattle.std.proofs.Common.{◌≡◌}
use Rattle.mum_published.specs.Calls.{latest}
use Rattle.mum_tests.proofs.published.publish_all.Given as goal

abbrev pub invariant-loop-turn : goal.invariant-loop-turn
invariant-loop-turn g l = (l.twin ≡ latest l.publisher) × (l.publisher.opening ≡ l.fn.publisher.opening)
