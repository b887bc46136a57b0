use Rattle.mum_owner.proofs.Rolling.{all_rolls}
use Rattle.mum_owner.proofs.laws.logins_are_of_the_replies.Goals as goal

pub returns : goal.returns
returns g c old new turns all = all_rolls g.D.Entrance.facts g.D.Peer.Link.facts old turns new all
