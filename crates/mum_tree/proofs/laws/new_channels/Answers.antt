use Rattle.mum_tree.proofs.Back.{adds_both_ways}
use Rattle.mum_tree.proofs.laws.new_channels.Goals as goal

pub returns : goal.returns
returns c = adds_both_ways
