use Rattle.mum_state.proofs.Common.{◌∙◌, ◌<◌, length, arith, ap, sym, length-set, ChannelsState, with_policy}
use Rattle.mum_state.proofs.{Governed.set_value, Laid.free_set, Laid.within}
use Rattle.mum_state.proofs.channels.Channels.set_policy.Goals as goal

pub index_mut-requires : goal.index_mut-requires
index_mut-requires c =
    let there : c.in-Some.place < length c.self.inside.policies.items =
    within c.self.inside.policies.items c.self.inside.tree c.args.id c.args.policy c.in-Some.place c.self.invariant.proper c.self.invariant.whole (sym c.place.ensures ∙ c.in-Some.is) in
    omega (arith, c.self.inside.policies.ok)

pub invariant_of-self : goal.invariant_of-self
invariant_of-self c = record {
  proper = c.self.invariant.proper;
  whole = simp length-set c.self.invariant.whole;
  free = free_set c.self.inside.policies.items c.self.inside.tree c.args.id c.args.policy c.in-Some.place c.self.invariant.proper c.self.invariant.whole (sym c.place.ensures ∙ c.in-Some.is) c.self.invariant.free;
}

pub returns : goal.returns
returns c =
    set_value c.self.inside.policies.items c.self.inside.tree c.args.id c.args.policy c.in-Some.place c.self.invariant.proper c.self.invariant.whole (sym c.place.ensures ∙ c.in-Some.is)
    ∙ ap (λ (channels : ChannelsState). record channels { policies = with_policy c.args.id c.args.policy channels.policies }) c.self.view_is
