use Rattle.mum_audit.proofs.Common.{◌≡◌, drop, IsViewOf, first_wrong, worker_findings}
use Rattle.mum_audit.proofs.worker.check_workers.Given as goal

abbrev pub invariant-loop-entries : goal.invariant-loop-entries
invariant-loop-entries l = record {
  view : IsViewOf l.past.opening l.past.accepted l.hearing.view;
  wrong : first_wrong l.initial.trail.line (worker_findings l.past l.initial.trail l.by_worker) ≡ first_wrong l.trail.line (worker_findings l.past l.trail (drop l.entries-index l.by_worker));
}
