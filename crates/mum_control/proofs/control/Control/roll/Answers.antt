use Rattle.mum_control.proofs.Common.{◌∙◌, ap, Opening, ControlFacts}
use Rattle.mum_control.proofs.control.Control.roll.Goals as goal

pub returns-clause-book : goal.returns-clause-book
returns-clause-book g c = c.roll.ensures.book ∙ ap (λ (o : Opening). o.roll) c.self.invariant.same_opening

pub returns-clause-log : goal.returns-clause-log
returns-clause-log g c = c.roll.ensures.log ∙ ap (λ (k : ControlFacts). k.publisher.roll) c.self.view_is
