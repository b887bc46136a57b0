use Rattle.mum_config.proofs.Common.{ap, err_from_is_err_and, out_of_memory}
use Rattle.mum_config.proofs.channel.read_channels.Goals as goal

pub returns-in_err-met-clause-reads : goal.returns-in_err-met-clause-reads
returns-in_err-met-clause-reads c =
    let p = err_from_is_err_and c.from_residual.result c.from_residual.ensures.1 in
    rw p.1 (out_of_memory _ _ p.2)

pub returns-in-Err-clause-reads : goal.returns-in-Err-clause-reads
returns-in-Err-clause-reads c = rw c.in_ok-met.ensures at c.in-Err.ensures.reads

pub returns-in-Ok-clause-reads : goal.returns-in-Ok-clause-reads
returns-in-Ok-clause-reads c = (
  rw c.in_ok-met.ensures at c.in-Ok.ensures.reads.0,
  rw c.into_depths.ensures (ap (λ met. met.depths) (rw c.in_ok-met.ensures at c.in-Ok.ensures.met)),
)
