-- The document says what it is read as.
use Rattle.mum_serve.proofs.Common.{Ok}
use Rattle.mum_serve.proofs.Refused.{is_refusal, refusal_reads, refused_as, settings_alone}
use Rattle.mum_serve.proofs.program.described.Goals as goal

pub returns-in-Err-clause-describes : goal.returns-in-Err-clause-describes
returns-in-Err-clause-describes c =
    rw c.refusal.ensures (refused_as c.args.bytes.now c.in-Err.error c.in-Err.ensures.reads)

pub returns-in-Err-clause-refuses : goal.returns-in-Err-clause-refuses
returns-in-Err-clause-refuses c = rw c.refusal.ensures (is_refusal c.in-Err.error)

pub returns-in-Err-clause-not_read : goal.returns-in-Err-clause-not_read
returns-in-Err-clause-not_read c = λ faults. rw c.refusal.ensures (refusal_reads c.in-Err.error faults)

pub returns-in-Ok-clause-alone : goal.returns-in-Ok-clause-alone
returns-in-Ok-clause-alone c = settings_alone c.args.bytes.now (Ok c.in-Ok.config) c.in-Ok.ensures.reads
