use Rattle.mum_why.proofs.Common.{◌∙◌, sym, eqb-true, is_root-last}
use Rattle.mum_why.proofs.Walked.{nowhere_is_root, somewhere}
use Rattle.mum_why.proofs.cut.ends_at_root.Goals as goal

pub returns-then-is_empty : goal.returns-then-is_empty
returns-then-is_empty c = nowhere_is_root c.args.path.now (eqb-true _ 0 (sym c.is_empty.ensures ∙ c.if-is_empty.true))

pub returns : goal.returns
returns c = c.eq.ensures ∙ is_root-last c.args.path.now _ (somewhere c.args.path.now (sym c.is_empty.ensures ∙ c.if-is_empty.false))
