use Rattle.mum_rules_user.proofs.Common.{rules, answer_frame}
use Rattle.mum_rules_user.proofs.query.answer_frame.Goals as goal

pub returns : goal.returns
unfolding answer_frame
returns c = search rules
