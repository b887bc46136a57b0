use Rattle.mum_state.proofs.Common.{◌≡◌, true, sym, subst, fits, StateValue}
use Rattle.mum_state.proofs.Staged.{proper_after}
use Rattle.mum_state.proofs.state.State.apply.Goals as goal

pub invariant_of-self : goal.invariant_of-self
invariant_of-self c =
    proper_after c.self.inside.parts c.apply.new.self c.args.edit.now c.apply.result c.self.invariant
    (subst (λ (s : StateValue). fits s c.args.edit.now ≡ true) (sym c.self.view_is) c.requires) c.apply.ensures.ok c.apply.ensures.err

pub returns-clause-proper : goal.returns-clause-proper
returns-clause-proper c =
    proper_after c.self.inside.parts c.apply.new.self c.args.edit.now c.apply.result c.self.invariant
    (subst (λ (s : StateValue). fits s c.args.edit.now ≡ true) (sym c.self.view_is) c.requires) c.apply.ensures.ok c.apply.ensures.err
