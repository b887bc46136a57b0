use Rattle.mum_document.proofs.First.{within_none}
use Rattle.mum_document.proofs.object.Object.at.Goals as goal

pub returns-in-Ok-clause-reads : goal.returns-in-Ok-clause-reads
returns-in-Ok-clause-reads g c = λ fault value reads. let read = rw c.in-Ok.is at reads in (within_none _ fault read.0, read.1)
