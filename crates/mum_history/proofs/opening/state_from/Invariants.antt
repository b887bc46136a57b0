use Rattle.std.proofs.Common.{◌≡◌}
use Rattle.mum_state.specs.After.{at}
use Rattle.mum_history.proofs.opening.state_from.Given as goal

abbrev pub invariant-loop-edit : goal.invariant-loop-edit
invariant-loop-edit l = l.state ≡ at l.fn.state l.edits l.edit-index
