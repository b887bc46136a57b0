-- The frame is a login or a command, and the machine asks for it.
use Rattle.mum_audit.proofs.Common.{◌∙◌, sym, IfOk-weaker}
use Rattle.mum_audit.proofs.Acting.{asked, none_of_three, verdict_is}
use Rattle.mum_audit.proofs.decision.decide_frame.Goals as goal

pub verdict_of-requires : goal.verdict_of-requires
verdict_of-requires c =
    let none = none_of_three _ _ _ (sym c.is_no_command.ensures ∙ c.if-is_no_command.false) in
    asked c.args.version c.args.frame.now.kind c.args.frame.now.payload.now c.args.actor c.in_ok-action.action c.in_ok-action.ensures none.1 none.0 none.2

pub returns-clause-verdict : goal.returns-clause-verdict
returns-clause-verdict c =
    let none = none_of_three _ _ _ (sym c.is_no_command.ensures ∙ c.if-is_no_command.false) in
    IfOk-weaker c.verdict_of.result _ _
    (λ decided is. verdict_is c.args.version c.args.frame.now.kind c.args.frame.now.payload.now c.args.state.now decided c.args.actor c.in_ok-action.action c.in_ok-action.ensures none.1 none.0 none.2 is)
    c.verdict_of.ensures.verdict
