use Rattle.mum_port.proofs.Common.{◌∙◌, IfOk-weaker}
use Rattle.mum_port.proofs.{Asking.asks-as_heard, Machines.frame_keeps_numbers}
use Rattle.mum_port.proofs.client.Client.frame.Goals as goal

pub invariant_of-self : goal.invariant_of-self
invariant_of-self c =
    let kept = frame_keeps_numbers c.frame.result c.self.inside.session c.frame.new.self c.args.frame.kind c.args.frame.payload c.frame.ensures.after c.frame.ensures.err in
    (kept.0 ∙ c.self.invariant.0, kept.1 ∙ c.self.invariant.1)

pub returns-clause-asked : goal.returns-clause-asked
returns-clause-asked c =
    IfOk-weaker c.frame.result _ _ (λ asked is. asks-as_heard c.self.inside.session c.args.frame.kind c.args.frame.payload asked is) c.frame.ensures.action
