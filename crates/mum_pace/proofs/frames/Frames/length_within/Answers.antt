use Rattle.mum_pace.proofs.Common.{arith}
use Rattle.mum_pace.proofs.OnePiece.{small_pieces}
use Rattle.mum_pace.proofs.frames.Frames.length_within.Goals as goal

pub overflow_add-pieces_in : goal.overflow_add-pieces_in
overflow_add-pieces_in c = omega (arith, small_pieces c.passed-passed.result)

pub bytes_within-requires : goal.bytes_within-requires
bytes_within-requires c = omega (arith, small_pieces c.passed-passed.result)
