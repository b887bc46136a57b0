use Rattle.mum_control.proofs.Common.{inl, subst, ◌⊎◌, Verdict, Decides, IsDropped}
use Rattle.mum_control.proofs.control.Control.command.Goals as goal

pub returns-in-Ok : goal.returns-in-Ok
returns-in-Ok g c =
    let old = c.args.self.now in
    let command = c.args.command in
    let reply = c.settle.result in
    subst (λ (v : Verdict). IsDropped old command.connection reply c.settle.new.self ⊎ Decides old command.connection command.session v reply c.settle.new.self)
    c.in-Ok.ensures.verdict c.settle.ensures

pub returns-in-Err : goal.returns-in-Err
returns-in-Err g c = inl c.refuse.ensures
