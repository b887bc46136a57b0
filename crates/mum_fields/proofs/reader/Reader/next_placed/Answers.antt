use Rattle.mum_fields.proofs.Common.{err_from_is_err_and, cursor_of, entry_of, Some, None}
use Rattle.mum_fields.proofs.{Taking.tested_empty, Taking.tested_some, Taking.fields-end, Taking.fields-item, Taking.fields-fault, Taking.fields-shorter, Stops.end-no_fault, Stops.field-no_fault, Stops.fault-is_fault}
use Rattle.mum_fields.proofs.reader.Reader.next_placed.Goals as goal

pub returns-then-is_empty-clause-takes : goal.returns-then-is_empty-clause-takes
returns-then-is_empty-clause-takes c =
    let left = cursor_of c.self.inside.cursor in
    rw (← c.self.view_is) (fields-end left (tested_empty left.rest c.if-is_empty.ensures))

pub returns-in_err-placed-clause-takes : goal.returns-in_err-placed-clause-takes
returns-in_err-placed-clause-takes c =
    let p = err_from_is_err_and c.from_residual.result c.from_residual.ensures.1 in
    let left = cursor_of c.self.inside.cursor in
    rw (p.1, p.2, ← c.self.view_is) (fields-fault left _ (tested_some left.rest c.if-is_empty.ensures) c.in_err-placed.ensures)

pub returns-clause-takes : goal.returns-clause-takes
returns-clause-takes c = rw (← c.self.view_is) (fields-item (cursor_of c.self.inside.cursor) (cursor_of c.in_ok-placed.after) (entry_of c.in_ok-placed.placed) c.in_ok-placed.ensures)

pub returns-clause-shorter : goal.returns-clause-shorter
returns-clause-shorter c = rw (← c.self.view_is) (fields-shorter (cursor_of c.self.inside.cursor) (cursor_of c.in_ok-placed.after) (entry_of c.in_ok-placed.placed) c.in_ok-placed.ensures)

pub returns-then-is_empty-clause-faults : goal.returns-then-is_empty-clause-faults
returns-then-is_empty-clause-faults c =
    let left = cursor_of c.self.inside.cursor in
    rw (← c.self.view_is) (end-no_fault left None (tested_empty left.rest c.if-is_empty.ensures))

pub returns-in_err-placed-clause-faults : goal.returns-in_err-placed-clause-faults
returns-in_err-placed-clause-faults c =
    let p = err_from_is_err_and c.from_residual.result c.from_residual.ensures.1 in
    let left = cursor_of c.self.inside.cursor in
    rw (p.1, p.2, ← c.self.view_is) (fault-is_fault left _ (tested_some left.rest c.if-is_empty.ensures) c.in_err-placed.ensures)

pub returns-clause-faults : goal.returns-clause-faults
returns-clause-faults c =
    let left = cursor_of c.self.inside.cursor in
    rw (← c.self.view_is) (field-no_fault left (entry_of c.in_ok-placed.placed, cursor_of c.in_ok-placed.after) (Some c.in_ok-placed.placed) c.in_ok-placed.ensures)

pub returns-in-Some-clause-takes : goal.returns-in-Some-clause-takes
returns-in-Some-clause-takes c = rw (← c.self.view_is) (fields-item (cursor_of c.self.inside.cursor) (cursor_of c.in-Some.after) (entry_of c.in-Some.placed) c.in-Some.ensures)

pub returns-in-Some-clause-shorter : goal.returns-in-Some-clause-shorter
returns-in-Some-clause-shorter c = rw (← c.self.view_is) (fields-shorter (cursor_of c.self.inside.cursor) (cursor_of c.in-Some.after) (entry_of c.in-Some.placed) c.in-Some.ensures)

pub returns-in-Some-clause-faults : goal.returns-in-Some-clause-faults
returns-in-Some-clause-faults c =
    let left = cursor_of c.self.inside.cursor in
    rw (← c.self.view_is) (field-no_fault left (entry_of c.in-Some.placed, cursor_of c.in-Some.after) (Some c.in-Some.placed) c.in-Some.ensures)
