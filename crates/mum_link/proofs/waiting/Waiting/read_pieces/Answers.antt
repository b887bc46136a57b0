use Rattle.mum_link.proofs.Common.{rules}
use Rattle.mum_link.proofs.ReadingOn.{reads_both, reads_none}
use Rattle.mum_link.proofs.waiting.Waiting.read_pieces.Goals as goal

pub loop-init : goal.loop-init
loop-init g c = (search rules, reads_none _ _)

pub returns-in-Failed-clause-reads : goal.returns-in-Failed-clause-reads
returns-in-Failed-clause-reads g c = reads_both _ _ _ _ _ _ c.loop.invariant.1 c.read_piece.ensures.reads

pub loop-preserved : goal.loop-preserved
loop-preserved g c = (search rules, reads_both _ _ _ _ _ _ c.loop.invariant.1 c.read_piece.ensures.reads)

pub returns-in-NotYet-clause-reads : goal.returns-in-NotYet-clause-reads
returns-in-NotYet-clause-reads g c = reads_both _ _ _ _ _ _ c.loop.invariant.1 c.read_piece.ensures.reads
