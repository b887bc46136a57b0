use Rattle.mum_policy.proofs.Common.{◌∙◌}
use Rattle.mum_policy.proofs.Paths.{is_root-last}
use Rattle.mum_policy.proofs.walk.ends_at_root.Goals as goal

pub returns : goal.returns
returns c = c.eq.ensures ∙ is_root-last _ _ c.requires
