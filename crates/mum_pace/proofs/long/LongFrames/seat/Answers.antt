use Rattle.mum_pace.proofs.Common.{rules}
use Rattle.mum_pace.proofs.Together.{comes}
use Rattle.mum_pace.proofs.long.LongFrames.seat.Goals as goal

pub load_new_seat-reserved-requires : goal.load_new_seat-reserved-requires
load_new_seat-reserved-requires c = (search rules, comes _)
