use Rattle.mum_tree.proofs.Common.{ap, ◌∙◌, is_some}
use Rattle.mum_tree.proofs.Climb.{some_level}
use Rattle.mum_tree.proofs.rows.is_at_or_below.Goals as goal

pub returns : goal.returns
returns c = c.is_some.ensures ∙ ap is_some c.steps_under.ensures.value ∙ some_level c.args.rows.now c.args.top c.args.id
