use Rattle.mum_step_laws.proofs.OwnerTurning.{owners}
use Rattle.mum_step_laws.proofs.owners.a_turn_of_the_owner_is_steps.Goals as goal

pub returns : goal.returns
returns g c = owners g.D.Entrance.facts g.D.Peer.Link.facts
