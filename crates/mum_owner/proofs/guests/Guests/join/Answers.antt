use Rattle.mum_owner.proofs.Common.{List, subst, sym, vec_capacity, AreKept, seated, Guest}
use Rattle.mum_owner.proofs.Rows.{kept_mapped, seated_number}
use Rattle.mum_owner.proofs.guests.Guests.join.Goals as goal

pub invariant_of-self : goal.invariant_of-self
invariant_of-self c =
    let at = c.self.inside in
    subst (λ (rows : List Guest). AreKept rows at.given at.closed at.limit (vec_capacity c.seat_in.new.rows)) (sym c.seat_in.ensures.rows)
    (kept_mapped (seated c.args.connection c.args.session c.args.slot) (seated_number c.args.connection c.args.session c.args.slot) at.rows.items at.given at.closed at.limit (vec_capacity at.rows) (vec_capacity c.seat_in.new.rows) c.self.invariant c.seat_in.ensures.room)
