use Rattle.mum_rules_tree.proofs.Common.{ap, sym, ◌∙◌, none-some, denial}
use Rattle.mum_rules_tree.proofs.laws.denials_are_no_edits.Goals as goal

pub returns : goal.returns
returns c = λ session verdict frame edit sent is. none-some frame (sym (ap (denial session) is) ∙ sent)
