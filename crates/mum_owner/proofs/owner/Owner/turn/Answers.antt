use Rattle.mum_owner.proofs.Common.{◌∙◌, ℕ, Bool, ap, opening_of}
use Rattle.mum_owner.proofs.Opening.{done_where_ended, opening_stays}
use Rattle.mum_owner.proofs.owner.Owner.turn.Goals as goal

pub returns-clause-opening : goal.returns-clause-opening
returns-clause-opening g c =
    let stays = opening_stays _ _ _ _ _ c.work.ensures in
    ap (λ (n : ℕ). opening_of g.N.Naming.opening.state g.N.Doorside.door n c.work.new.self.scribe.is_asked) stays.limit
    ∙ ap (λ (b : Bool). opening_of g.N.Naming.opening.state g.N.Doorside.door c.args.self.now.guests.limit b) stays.asked

pub returns-clause-ended : goal.returns-clause-ended
returns-clause-ended g c = done_where_ended _ _ _ _ _ c.work.ensures
