use Rattle.mum_state.proofs.Common.{ap, ChannelsState}
use Rattle.mum_state.proofs.ByPlace.{policy_there}
use Rattle.mum_state.proofs.channels.Channels.granted_to.Goals as goal

pub permitted-requires-clause-there : goal.permitted-requires-clause-there
permitted-requires-clause-there c = rw c.as_slice.ensures.value
    (λ k d within. policy_there c.args.self.now _ _ _ (ap (λ (s : ChannelsState). s.policies) c.self.view_is) (c.in-Some.ensures.way.there k d within))
