use Rattle.mum_owner.proofs.Answering.{all_answered}
use Rattle.mum_owner.proofs.laws.each_command_has_one_reply.Goals as goal

pub returns : goal.returns
returns g c old new turns all = all_answered g.D.Entrance.facts g.D.Peer.Link.facts old turns new all
