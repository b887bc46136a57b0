use Rattle.mum_document.proofs.Common.{refl}
use Rattle.mum_document.proofs.group.read_account.Goals as goal

pub returns-in-Ok : goal.returns-in-Ok
returns-in-Ok c = (c.in-Ok.ensures.0, rw c.in-Ok.ensures.1 refl)

pub returns-in-Err : goal.returns-in-Err
returns-in-Err c = rw c.in-Err.ensures c.fault_at.ensures
