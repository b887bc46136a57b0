use Rattle.mum_notify.proofs.Standing.{other_channels_stand_lem}
use Rattle.mum_notify.proofs.laws.other_channels_stand.Goals as goal

pub returns : goal.returns
returns c = other_channels_stand_lem
