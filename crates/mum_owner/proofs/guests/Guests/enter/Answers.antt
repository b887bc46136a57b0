use Rattle.mum_owner.proofs.Common.{◌+◌, List, subst, sym, IsTrue, vec_capacity, GuestsFacts, AreKept, has_room, Guest}
use Rattle.mum_owner.proofs.Rows.{kept_entered, room_so}
use Rattle.mum_owner.proofs.guests.Guests.enter.Goals as goal

pub invariant_of-self : goal.invariant_of-self
invariant_of-self c =
    let at = c.self.inside in
    let guests : GuestsFacts = record { rows = at.rows.items; given = at.given; closed = at.closed; limit = at.limit } in
    let room = room_so guests (subst (λ (g : GuestsFacts). IsTrue (has_room g)) (sym c.self.view_is) c.requires) in
    subst (λ (rows : List Guest). AreKept rows (at.given + 1) at.closed at.limit (vec_capacity c.push_reserved.new.self)) (sym c.push_reserved.ensures.items)
    (kept_entered c.args.address at.rows.items at.given at.closed at.limit (vec_capacity at.rows) (vec_capacity c.push_reserved.new.self) c.self.invariant room.0 room.1 c.push_reserved.ensures.capacity)
