use Rattle.mum_record.proofs.Common.{arith}
use Rattle.mum_record.proofs.WorkerLine.{is_worker_line-named, is_worker_line-none}
use Rattle.mum_record.proofs.draft.is_worker_line.Goals as goal

pub returns-in-Some : goal.returns-in-Some
returns-in-Some c = is_worker_line-named c.args.number c.in-Some.worker c.args.line.now (omega arith) c.in-Some.ensures

pub returns-in-None : goal.returns-in-None
returns-in-None c = is_worker_line-none c.args.number c.args.line.now (omega arith) c.in-None.ensures
