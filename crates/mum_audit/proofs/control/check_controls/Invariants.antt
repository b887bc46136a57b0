use Rattle.mum_audit.proofs.Common.{◌≡◌, drop, first_wrong, lines_on, after_entries, control_findings}
use Rattle.mum_audit.proofs.control.check_controls.Given as goal

abbrev pub invariant-loop-entry : goal.invariant-loop-entry
invariant-loop-entry l = record {
  wrong : first_wrong l.initial.line (control_findings l.initial.past l.entries) ≡ first_wrong l.line (control_findings l.past (drop l.entry-index l.entries));
  past : after_entries l.initial.past l.entries ≡ after_entries l.past (drop l.entry-index l.entries);
  line : lines_on l.initial.line (control_findings l.initial.past l.entries) ≡ lines_on l.line (control_findings l.past (drop l.entry-index l.entries));
}
