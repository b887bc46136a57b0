use Rattle.mum_owner.proofs.Noting.{each_further}
use Rattle.mum_owner.proofs.laws.each_note_has_a_further_one.Goals as goal

pub returns : goal.returns
returns g c old new turn turned side there =
    each_further g.D.Entrance.facts g.D.Peer.Link.facts old turn new turned side there
