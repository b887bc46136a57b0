use Rattle.mum_fields.proofs.Common.{err_from_is_err_and, cursor_of}
use Rattle.mum_fields.proofs.Taking.{tested_empty, tested_some, packed-end, packed-item, packed-fault, packed-shorter}
use Rattle.mum_fields.proofs.packed.Packed.next_number.Goals as goal

pub returns-then-is_empty-clause-takes : goal.returns-then-is_empty-clause-takes
returns-then-is_empty-clause-takes c =
    let left = cursor_of c.self.inside.cursor in
    rw (← c.self.view_is) (packed-end left (tested_empty left.rest c.if-is_empty.ensures))

pub returns-in_err-number-clause-takes : goal.returns-in_err-number-clause-takes
returns-in_err-number-clause-takes c =
    let p = err_from_is_err_and c.from_residual.result c.from_residual.ensures.1 in
    let left = cursor_of c.self.inside.cursor in
    rw (p.1, p.2, ← c.self.view_is) (packed-fault left _ (tested_some left.rest c.if-is_empty.ensures) c.in_err-number.ensures)

pub returns-clause-takes : goal.returns-clause-takes
returns-clause-takes c = rw (← c.self.view_is) (packed-item (cursor_of c.self.inside.cursor) (cursor_of c.in_ok-number.after) c.in_ok-number.number c.in_ok-number.ensures)

pub returns-clause-shorter : goal.returns-clause-shorter
returns-clause-shorter c = rw (← c.self.view_is) (packed-shorter (cursor_of c.self.inside.cursor) (cursor_of c.in_ok-number.after) c.in_ok-number.number c.in_ok-number.ensures)
