use Rattle.mum_users.proofs.Common.{rules, filter_same}
use Rattle.mum_users.proofs.target.take_target.Goals as goal

pub returns : goal.returns
returns c = filter_same _ _ _ (λ x b f' k. search rules) _ _ c.retain.ensures.filtered
