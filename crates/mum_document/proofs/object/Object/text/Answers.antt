use Rattle.mum_document.proofs.First.{starved}
use Rattle.mum_document.proofs.object.Object.text.Goals as goal

pub returns-in_err-of-in-Ok : goal.returns-in_err-of-in-Ok
returns-in_err-of-in-Ok c = starved _ _ _ c.from_residual.ensures.1
