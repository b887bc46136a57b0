use Rattle.mum_kept.proofs.Common.{◌≡◌, true, take, list_all, has_policy}
use Rattle.mum_kept.proofs.good.have_policies.Given as goal

abbrev pub invariant-loop-channel : goal.invariant-loop-channel
invariant-loop-channel l = list_all has_policy (take l.channel-index l.channels) ≡ true
