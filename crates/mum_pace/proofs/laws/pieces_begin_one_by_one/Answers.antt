use Rattle.mum_pace.proofs.OnePiece.{few_is_within, pieces_in-next, pieces_in-none, within_is_few}
use Rattle.mum_pace.proofs.laws.pieces_begin_one_by_one.Goals as goal

pub returns-clause-none : goal.returns-clause-none
returns-clause-none c = pieces_in-none

pub returns-clause-next : goal.returns-clause-next
returns-clause-next c = pieces_in-next

pub returns-clause-greatest : goal.returns-clause-greatest
returns-clause-greatest c = λ bytes pieces. (within_is_few bytes pieces, few_is_within bytes pieces)
