use Rattle.mum_state.proofs.Common.{◌≡◌, take}
use Rattle.mum_state.proofs.channels.copy_of_policies.Given as goal

abbrev pub invariant-loop-policy : goal.invariant-loop-policy
invariant-loop-policy l = l.copies.items ≡ take l.policy-index l.policies
