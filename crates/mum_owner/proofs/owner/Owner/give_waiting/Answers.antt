use Rattle.mum_owner.proofs.Common.{◌∙◌, ap, sym, OwnerFacts}
use Rattle.mum_owner.proofs.Desks.{none_may_go}
use Rattle.mum_owner.proofs.owner.Owner.give_waiting.Goals as goal

pub unreachable-requires : goal.unreachable-requires
unreachable-requires g c =
    none_may_go c.args.self.now (ap (λ (o : OwnerFacts g.row.D.Denot g.row.D-Peer.Denot). o.logins) (sym c.self.view_is) ∙ c.in-None.ensures.first.0) c.requires
