use Rattle.mum_audit.proofs.Common.{◌≡◌, drop, IsViewOf, first_wrong, entry_findings}
use Rattle.mum_audit.specs.Workers.{after_entries}
use Rattle.mum_audit.proofs.worker.check_entries.Given as goal

abbrev pub invariant-loop-entry : goal.invariant-loop-entry
invariant-loop-entry l = record {
  view : IsViewOf l.past.opening l.past.accepted l.hearing.view;
  wrong : first_wrong l.initial.trail.line (entry_findings l.past l.initial.trail l.entries) ≡ first_wrong l.trail.line (entry_findings l.past l.trail (drop l.entry-index l.entries));
  trail : after_entries l.initial.trail l.entries ≡ after_entries l.trail (drop l.entry-index l.entries);
}
