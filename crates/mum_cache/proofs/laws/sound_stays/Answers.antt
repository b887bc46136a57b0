use Rattle.mum_cache.proofs.Staying.{sound_stays_lem}
use Rattle.mum_cache.proofs.laws.sound_stays.Goals as goal

pub returns : goal.returns
returns c = sound_stays_lem
