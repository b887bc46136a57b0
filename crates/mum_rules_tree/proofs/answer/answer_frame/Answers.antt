use Rattle.mum_rules_tree.proofs.Common.{rules, answer_frame}
use Rattle.mum_rules_tree.proofs.answer.answer_frame.Goals as goal

pub returns : goal.returns
unfolding answer_frame
returns c = search rules
