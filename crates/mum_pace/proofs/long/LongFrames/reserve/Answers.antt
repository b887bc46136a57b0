use Rattle.mum_pace.proofs.Common.{rules}
use Rattle.mum_pace.proofs.Together.{exchanges}
use Rattle.mum_pace.proofs.long.LongFrames.reserve.Goals as goal

pub compare_exchange-found-requires : goal.compare_exchange-found-requires
compare_exchange-found-requires c = (search rules, search rules, exchanges _ _ _ _ _ (search rules) (search rules))
