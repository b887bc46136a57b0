use Rattle.mum_state.proofs.Common.{ap, ChannelsState}
use Rattle.mum_state.proofs.ByPlace.{policy_there}
use Rattle.mum_state.proofs.channels.Channels.counted_to.Goals as goal

pub permissions-requires-clause-there : goal.permissions-requires-clause-there
permissions-requires-clause-there g c = rw c.as_slice.ensures.value
    (λ k d within. policy_there c.args.self.now _ _ _ (ap (λ (s : ChannelsState). s.policies) c.self.view_is) (c.in-Some.ensures.way.there k d within))
