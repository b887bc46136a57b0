use Rattle.mum_users.proofs.Common.{rules, filter_same}
use Rattle.mum_users.proofs.listening.drop_channels.Goals as goal

pub returns-clause-items : goal.returns-clause-items
returns-clause-items c = filter_same _ _ _ (λ x b f' k. search rules) _ _ c.retain.ensures.filtered
