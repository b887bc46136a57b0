use Rattle.mum_rules_tree.proofs.Common.{rules, rejected_frame}
use Rattle.mum_rules_tree.proofs.denials.rejected_frame.Goals as goal

pub returns : goal.returns
unfolding rejected_frame
returns c = search rules
