use Rattle.mum_session.proofs.Framed.{framed_so}
use Rattle.mum_session.specs.declared.command.Asked.TheVariants as asked
use Rattle.mum_session.proofs.decision.decide.Goals as goal

pub returns-in-Tree-clause-framed : goal.returns-in-Tree-clause-framed
returns-in-Tree-clause-framed c =
    framed_so c.args.state.now c.args.session (asked.Tree c.in-Tree.message) c.decide_on_channels.result c.decide_on_channels.ensures.verdict

pub returns-in-User-clause-framed : goal.returns-in-User-clause-framed
returns-in-User-clause-framed c =
    framed_so c.args.state.now c.args.session (asked.User c.in-User.message) c.decide_on_users.result c.decide_on_users.ensures.verdict
