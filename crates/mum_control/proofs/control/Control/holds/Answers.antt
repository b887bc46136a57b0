use Rattle.mum_control.proofs.Common.{◌∙◌, ap, subst, ◌↔◌, IsTrue, StateValue, current, MayIn}
use Rattle.mum_control.proofs.control.Control.holds.Goals as goal

pub returns : goal.returns
returns g c =
    subst (λ (s : StateValue). IsTrue c.holds.result ↔ MayIn s c.args.session c.args.perm c.args.channel)
    (c.latest.ensures ∙ ap current c.self.view_is) c.holds.ensures
