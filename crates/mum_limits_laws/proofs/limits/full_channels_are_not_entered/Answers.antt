use Rattle.mum_limits_laws.proofs.FullLaws.{full_channels_lem}
use Rattle.mum_limits_laws.proofs.limits.full_channels_are_not_entered.Goals as goal

pub returns : goal.returns
returns c = full_channels_lem
