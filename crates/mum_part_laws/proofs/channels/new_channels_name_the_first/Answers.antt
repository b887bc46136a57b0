use Rattle.mum_part_laws.proofs.TreeLaws.{new_channels_lem}
use Rattle.mum_part_laws.proofs.channels.new_channels_name_the_first.Goals as goal

pub returns : goal.returns
returns c = new_channels_lem
