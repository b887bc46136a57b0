use Rattle.std.proofs.Common.{length}
use Rattle.murmur_why.proofs.recording.run_lines.Given as goal

abbrev pub decreases-lines : goal.decreases-lines
decreases-lines l = length l.rest
