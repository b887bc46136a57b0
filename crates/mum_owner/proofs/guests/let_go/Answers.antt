use Rattle.mum_owner.proofs.Common.{rules, filter_same}
use Rattle.mum_owner.proofs.guests.let_go.Goals as goal

pub returns-clause-rows : goal.returns-clause-rows
returns-clause-rows c = filter_same _ _ _ (λ x b f' k. search rules) _ _ c.retain.ensures.filtered
