use Rattle.mum_worker_laws.proofs.Voices.{one_entry_each}
use Rattle.mum_worker_laws.proofs.laws.voice_entries_are_the_looks.Goals as goal

pub returns : goal.returns
returns g c opening number pass room opened worker turns begun all =
    one_entry_each opening g.L.Link.facts number pass room opened turns worker begun all
