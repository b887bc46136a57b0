use Rattle.mum_owner.proofs.Desks.{taken_item}
use Rattle.mum_owner.proofs.owner.Owner.take_item.Goals as goal

pub returns : goal.returns
returns g c =
    taken_item _ _ c.take-item.new.self c.take-item.result _ _ c.self.view_is c.take-item.ensures.taken c.take-item.ensures.leave c.receive_item.ensures.0 c.receive_item.ensures.1 c.receive_item.ensures.2
