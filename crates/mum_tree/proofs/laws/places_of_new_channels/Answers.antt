use Rattle.mum_tree.proofs.Places.{least_free}
use Rattle.mum_tree.proofs.laws.places_of_new_channels.Goals as goal

pub returns : goal.returns
returns c = least_free
