use Rattle.mum_pace.proofs.Common.{rules}
use Rattle.mum_pace.proofs.Together.{gives_back}
use Rattle.mum_pace.proofs.long.LongFrames.give_back.Goals as goal

pub fetch_sub-requires : goal.fetch_sub-requires
fetch_sub-requires c = (search rules, search rules, gives_back _ _ _ _ c.requires.held)
