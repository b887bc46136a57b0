use Rattle.mum_worker_laws.proofs.Parcels.{opened_in_order}
use Rattle.mum_worker_laws.proofs.ports.parcels_are_taken_in_order.Goals as goal

pub returns : goal.returns
returns g c opening number pass journal opened worker turns begun all =
    opened_in_order g.L.Link.facts opening number pass journal opened turns worker begun all
