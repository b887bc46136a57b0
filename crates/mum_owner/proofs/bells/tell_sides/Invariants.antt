use Rattle.mum_owner.proofs.Telling.{ToldSoFar}
use Rattle.mum_owner.proofs.bells.tell_sides.Given as goal

abbrev pub invariant-loop-side : goal.invariant-loop-side
invariant-loop-side g l = ToldSoFar l.initial.side-items l.side-index l.told l.side-items
