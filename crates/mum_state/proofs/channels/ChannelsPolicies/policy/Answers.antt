use Rattle.mum_state.proofs.Common.{◌≡◌, ◌<◌, ℕ, List, length, ap, sym, subst, ◌∙◌, All, ChannelPolicy, Row, ChannelsState}
use Rattle.mum_state.proofs.ByPlace.{ArePlaced, place_within, policy_found, policy_missing}
use Rattle.mum_state.proofs.channels.ChannelsPolicies.policy.Goals as goal

are_placed : (stored : List ChannelPolicy) (rows : List Row) (limit : ℕ) → length stored ≡ limit → All (λ row. row.place < limit) rows → ArePlaced stored rows
are_placed stored rows limit whole seated = subst (λ (n : ℕ). All (λ (row : Row). row.place < n) rows) (sym whole) seated

pub bounds-policies-place : goal.bounds-policies-place
bounds-policies-place c =
    rw c.as_slice-policies.ensures.value
    (place_within _ _ c.args.id _ (are_placed c.self.inside.policies.items c.self.inside.tree.channels c.self.inside.tree.limit c.self.invariant.whole c.self.invariant.proper.places_fit) (sym c.place.ensures ∙ c.in-Some.is))

pub returns-in-Some : goal.returns-in-Some
returns-in-Some c =
    policy_found c.args.self.now _ _ c.args.id _ _ (ap (λ (s : ChannelsState). s.policies) c.self.view_is) (sym c.place.ensures ∙ c.in-Some.is)
    (place_within _ _ c.args.id _ (are_placed c.self.inside.policies.items c.self.inside.tree.channels c.self.inside.tree.limit c.self.invariant.whole c.self.invariant.proper.places_fit) (sym c.place.ensures ∙ c.in-Some.is))
    (rw (sym c.as_slice-policies.ensures.value) c.index-policies-place.is)

pub returns-in-None : goal.returns-in-None
returns-in-None c = policy_missing c.args.self.now _ _ c.args.id (ap (λ (s : ChannelsState). s.policies) c.self.view_is) (sym c.place.ensures ∙ c.in-None.is)
