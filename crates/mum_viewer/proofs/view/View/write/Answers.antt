use Rattle.mum_viewer.proofs.Common.{rules}
use Rattle.mum_viewer.proofs.Steps.{ends, finishes, writes}
use Rattle.mum_viewer.proofs.view.View.write.Goals as goal

pub returns-then-is_empty-clause-steps : goal.returns-then-is_empty-clause-steps
returns-then-is_empty-clause-steps g c =
    ends g.L.Link.facts _ _ (search rules) (search rules) (search rules) (search rules) (search rules) (search rules)

pub returns-then-not-is_empty-clause-steps : goal.returns-then-not-is_empty-clause-steps
returns-then-not-is_empty-clause-steps g c =
    writes g.L.Link.facts _ _ c.in-Took.count (search rules) (search rules) (search rules) (search rules) (search rules) (search rules) (search rules) (search rules)

pub returns-else-not-is_empty-clause-steps : goal.returns-else-not-is_empty-clause-steps
returns-else-not-is_empty-clause-steps g c =
    finishes g.L.Link.facts _ _ c.poll_write.new.self c.in-Took.count (search rules) (search rules) (search rules) (search rules) (search rules) (search rules) (search rules) (search rules)
