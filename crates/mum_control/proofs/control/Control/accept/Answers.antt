use Rattle.mum_control.proofs.Common.{inl, inr, subst, IsDropped, ControlFacts}
use Rattle.mum_control.proofs.Settling.{accepts_so}
use Rattle.mum_control.proofs.control.Control.accept.Goals as goal

pub returns-in-Ok : goal.returns-in-Ok
returns-in-Ok g c =
    let reply = c.answer.result in
    let said = c.answer.ensures in
    inr (accepts_so c.args.self.now c.append.new.self c.admit.new.self c.answer.new.self c.args.edit c.args.connection c.args.end reply c.in-Ok.ensures.ok
    c.admit.ensures.login said.published said.others said.connection said.end c.requires.end said.wire said.no_memory said.roll)

pub returns-in-Err : goal.returns-in-Err
returns-in-Err g c =
    let reply = c.refuse.result in
    inl (subst (λ (old : ControlFacts). IsDropped old c.args.connection reply c.refuse.new.self) c.in-Err.ensures.err c.refuse.ensures)
