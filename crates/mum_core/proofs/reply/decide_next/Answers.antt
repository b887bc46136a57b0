use Rattle.mum_core.proofs.Common.{sym, IfOk-weaker}
use Rattle.mum_session.specs.declared.command.Asked.TheVariants.{User}
use Rattle.mum_core.proofs.{Decided.fitting_seat, Nexts.decided_of, Nexts.frame_next, Nexts.leave_next}
use Rattle.mum_rules_user.specs.declared.message.UserMessage.TheVariants as messages
use Rattle.mum_core.proofs.reply.decide_next.Goals as goal

pub returns-in-Some-clause-verdict : goal.returns-in-Some-clause-verdict
returns-in-Some-clause-verdict c =
    let actor = c.args.connection.now in
    let command = c.in-Some.command.now in
    IfOk-weaker c.decide.result _ _
    (λ decided is. decided_of c.args.state.now c.session-session.result actor command decided c.session-session.ensures (frame_next actor command (sym c.in-Some.ensures)) is)
    c.decide.ensures.verdict

pub returns-in-None-clause-verdict : goal.returns-in-None-clause-verdict
returns-in-None-clause-verdict c =
    let actor = c.args.connection.now in
    IfOk-weaker c.decide-in-None.result _ _
    (λ decided is. decided_of c.args.state.now c.session-session.result actor (User messages.Leave) decided c.session-session.ensures (leave_next actor (sym c.in-None.ensures) c.requires) is)
    c.decide-in-None.ensures.verdict

pub returns-in-Some-clause-seated : goal.returns-in-Some-clause-seated
returns-in-Some-clause-seated c =
    IfOk-weaker c.decide.result _ _ (λ decided fit. fitting_seat c.args.state.now decided c.know_proper.ensures fit) c.decide.ensures.fits

pub returns-in-None-clause-seated : goal.returns-in-None-clause-seated
returns-in-None-clause-seated c =
    IfOk-weaker c.decide-in-None.result _ _ (λ decided fit. fitting_seat c.args.state.now decided c.know_proper.ensures fit) c.decide-in-None.ensures.fits
