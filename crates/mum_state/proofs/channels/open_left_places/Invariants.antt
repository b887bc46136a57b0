use Rattle.mum_state.proofs.Governed.{AreOpened}
use Rattle.mum_state.proofs.channels.open_left_places.Given as goal

abbrev pub invariant-loop-place : goal.invariant-loop-place
invariant-loop-place l = AreOpened l.before l.tree.channels l.initial.policies.items l.policies.items l.place
