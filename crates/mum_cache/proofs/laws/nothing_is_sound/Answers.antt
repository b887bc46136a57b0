use Rattle.mum_cache.proofs.Staying.{nothing_is_sound_lem}
use Rattle.mum_cache.proofs.laws.nothing_is_sound.Goals as goal

pub returns : goal.returns
returns c = nothing_is_sound_lem
