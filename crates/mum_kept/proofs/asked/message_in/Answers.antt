use Rattle.mum_kept.proofs.Common.{sym}
use Rattle.mum_kept.proofs.Payloads.{not_read, read}
use Rattle.mum_kept.proofs.asked.message_in.Goals as goal

pub returns-in-Ok : goal.returns-in-Ok
returns-in-Ok c = sym (read c.args.payload.now c.in-Ok.message c.in-Ok.ensures)

pub returns-in-Err-Field : goal.returns-in-Err-Field
returns-in-Err-Field c = sym (not_read c.args.payload.now _ (rw c.in-Err-Field.field-0-is at c.in-Err-Field.ensures))

pub returns-in-Err-MissingField : goal.returns-in-Err-MissingField
returns-in-Err-MissingField c = sym (not_read c.args.payload.now _ (rw c.in-Err-MissingField.field-0-is at c.in-Err-MissingField.ensures))
