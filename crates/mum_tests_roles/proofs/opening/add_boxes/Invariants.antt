use Rattle.std.proofs.Common.{◌≡◌, length}
use Rattle.mum_tests_roles.proofs.opening.add_boxes.Given as goal

abbrev pub invariant-loop-slot : goal.invariant-loop-slot
invariant-loop-slot g l = length l.boxes.items ≡ l._slot
