-- A run that is refused counts nothing.
use Rattle.mum_serve.proofs.Refused.{refusal_runs, refusal_writes}
use Rattle.mum_serve.proofs.program.run_server.Goals as goal

pub returns-in-Err-clause-runs : goal.returns-in-Err-clause-runs
returns-in-Err-clause-runs g c = refusal_runs c.in-Err.end (g.C.Crew.counts c.args.crew.now) c.in-Err.ensures.refuses

pub returns-in-Err-clause-writes : goal.returns-in-Err-clause-writes
returns-in-Err-clause-writes g c = refusal_writes c.in-Err.end (g.O.Sink.faults c.args.output.now) c.in-Err.ensures.refuses
