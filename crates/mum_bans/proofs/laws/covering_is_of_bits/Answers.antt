use Rattle.mum_bans.proofs.Bits.{covering}
use Rattle.mum_bans.proofs.laws.covering_is_of_bits.Goals as goal

pub returns : goal.returns
returns c = covering
