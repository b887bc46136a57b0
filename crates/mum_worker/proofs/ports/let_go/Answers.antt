use Rattle.mum_worker.proofs.CommonNames.{rules, filter_same}
use Rattle.mum_worker.proofs.ports.let_go.Goals as goal

pub returns-clause-items : goal.returns-clause-items
returns-clause-items g c = filter_same _ _ _ (λ x b f' k. search rules) _ _ c.retain.ensures.filtered
