use Rattle.mum_rules_tree.proofs.Common.{rules, denied_frame}
use Rattle.mum_rules_tree.proofs.denials.denied_frame.Goals as goal

pub returns : goal.returns
unfolding denied_frame
returns c = search rules
