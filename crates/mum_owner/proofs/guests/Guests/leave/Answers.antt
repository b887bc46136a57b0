use Rattle.mum_owner.proofs.Common.{◌≡◌, ◌∙◌, ◌+◌, List, true, ap, subst, sym, list_any, vec_capacity, AreKept, is_of, Guest}
use Rattle.mum_owner.proofs.Rows.{kept_left}
use Rattle.mum_owner.proofs.guests.Guests.leave.Goals as goal

pub invariant_of-self : goal.invariant_of-self
invariant_of-self c =
    let at = c.self.inside in
    let any : list_any (is_of c.args.connection) at.rows.items ≡ true =
    ap (λ (rows : List Guest). list_any (is_of c.args.connection) rows) (sym c.as_slice.ensures.value) ∙ sym c.is_open.ensures ∙ c.if-is_open.true in
    subst (λ (rows : List Guest). AreKept rows at.given (at.closed + 1) at.limit (vec_capacity c.let_go.new.rows)) (sym c.let_go.ensures.rows)
    (kept_left c.args.connection at.rows.items at.given at.closed at.limit (vec_capacity at.rows) (vec_capacity c.let_go.new.rows) c.self.invariant any c.let_go.ensures.room)
