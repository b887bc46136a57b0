use Rattle.mum_users.proofs.Common.{rules, filter_same}
use Rattle.mum_users.proofs.masks.drop_masks.Goals as goal

pub returns : goal.returns
returns g c = filter_same _ _ _ (λ x b f' k. search rules) _ _ c.retain.ensures.filtered
