use Rattle.mum_tree.proofs.Common.{◌∙◌, false, replicate, ap}
use Rattle.mum_tree.proofs.rows.clear.Goals as goal

pub returns : goal.returns
returns c = c.fill.ensures.after (λ y is. is) ∙ ap (λ n. replicate n false) c.requires
