use Rattle.mum_rules_user.proofs.Decided.{fitting_login}
use Rattle.mum_rules_user.proofs.decide.decide_user.Goals as goal

pub returns-in-None-clause-fits : goal.returns-in-None-clause-fits
returns-in-None-clause-fits c = fitting_login c.args.state.now c.args.message.now c.decide_for_nobody.result c.decide_for_nobody.ensures
