-- Boxes of which no pass is made stay as they are.
use Rattle.mum_worker.proofs.Queues.{boxes_kept}
use Rattle.mum_worker.proofs.boxes.Boxes.passes_for.Goals as goal

pub returns-in-Decided-clause-same : goal.returns-in-Decided-clause-same
returns-in-Decided-clause-same g c = boxes_kept c.args.self.now

pub returns-in-Rejected-clause-same : goal.returns-in-Rejected-clause-same
returns-in-Rejected-clause-same g c = boxes_kept c.args.self.now
