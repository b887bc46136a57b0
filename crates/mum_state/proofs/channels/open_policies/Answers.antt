use Rattle.mum_state.proofs.Common.{◌∙◌, ◌+◌, ◌++◌, ℕ, List, [], ◌∷◌, ap, get_or, length, length-append, ChannelPolicy, open_policy}
use Rattle.mum_state.proofs.Governed.{open_pushed}
use Rattle.mum_state.proofs.channels.open_policies.Goals as goal

pub loop-place-init : goal.loop-place-init
loop-place-init c =
    let none = c.in_ok-policies.ensures.items in
    (ap length none, λ place. ap (λ (policies : List ChannelPolicy). get_or policies place open_policy) none)

pub loop-place-preserved : goal.loop-place-preserved
loop-place-preserved c =
    let before = c.loop-place.policies.items in
    let pushed = c.in_ok-push.ensures.items ∙ ap (λ (policy : ChannelPolicy). before ++ policy ∷ []) c.open_policy.ensures in (
      ap length pushed ∙ length-append before (open_policy ∷ []) ∙ ap (λ (n : ℕ). n + 1) c.loop-place.invariant.0,
      λ place. ap (λ (policies : List ChannelPolicy). get_or policies place open_policy) pushed ∙ open_pushed before c.loop-place.invariant.1 place,
    )
