use Rattle.mum_worker_laws.proofs.Common.{ℕ, ◌++◌, List, ap, action_of, echo_of}
use Rattle.mum_worker_laws.proofs.Taking.{written}
use Rattle.mum_worker_laws.proofs.ports.parcels_are_written.Goals as goal

pub returns : goal.returns
returns c machine did = ap (λ (l : List ℕ). echo_of (action_of machine did.handled) ++ l) (written machine did.post did.voice)
