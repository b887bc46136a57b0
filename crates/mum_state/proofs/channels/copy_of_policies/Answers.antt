use Rattle.mum_state.proofs.Common.{◌∙◌, ◌++◌, List, [], ◌∷◌, ap, sym, take, take_more, ChannelPolicy}
use Rattle.mum_state.proofs.channels.copy_of_policies.Goals as goal

pub loop-policy-preserved : goal.loop-policy-preserved
loop-policy-preserved c =
    c.in_ok-push.ensures.items
    ∙ ap (λ (front : List ChannelPolicy). front ++ c.in_ok-copy.field-0 ∷ []) c.loop-policy.invariant
    ∙ ap (λ (next : ChannelPolicy). take c.loop-policy.policy-index c.args.policies.now ++ next ∷ []) (c.in_ok-copy.ensures ∙ c.policy-item.is)
    ∙ sym (take_more c.args.policies.now c.loop-policy.policy-index c.policy-item.result c.loop-policy-test.true)
