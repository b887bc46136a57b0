use Rattle.mum_core.proofs.Common.{length}
use Rattle.mum_core.proofs.machine.tell.+push_lines.Given as goal

abbrev pub decreases-push_lines : goal.decreases-push_lines
decreases-push_lines l = length l.lines.now
