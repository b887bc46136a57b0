use Rattle.mum_owner.proofs.Common.{List, subst, sym, vec_capacity, AreKept, lag_noted, Guest}
use Rattle.mum_owner.proofs.Rows.{kept_mapped, noted_number}
use Rattle.mum_owner.proofs.guests.Guests.note_lag.Goals as goal

pub invariant_of-self : goal.invariant_of-self
invariant_of-self c =
    let at = c.self.inside in
    subst (λ (rows : List Guest). AreKept rows at.given at.closed at.limit (vec_capacity c.note_lag_in.new.rows)) (sym c.note_lag_in.ensures.rows)
    (kept_mapped (lag_noted c.args.connection) (noted_number c.args.connection) at.rows.items at.given at.closed at.limit (vec_capacity at.rows) (vec_capacity c.note_lag_in.new.rows) c.self.invariant c.note_lag_in.ensures.room)
