use Rattle.mum_state.proofs.Common.{◌≡◌, ℕ, get_or, length, open_policy}
use Rattle.mum_state.proofs.channels.open_policies.Given as goal

abbrev pub invariant-loop-place : goal.invariant-loop-place
invariant-loop-place l = (length l.policies.items ≡ l._place) × ((place : ℕ) → get_or l.policies.items place open_policy ≡ open_policy)
