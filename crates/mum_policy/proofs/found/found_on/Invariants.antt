use Rattle.mum_policy.proofs.Common.{◌≡◌, ◌<◌, ℕ, None, length, get_or, option_copied, ChannelId}
use Rattle.mum_policy.proofs.found.found_on.Given as goal

abbrev pub invariant-loop-place : goal.invariant-loop-place
invariant-loop-place g l = record {
  size : length l.found ≡ 33;
  found : (i : ℕ) (d : ChannelId) → i < l.place → i < 33 → option_copied (get_or l.found i None) ≡ g.P.Policies.policy_of l.policies (get_or l.path i d);
}
