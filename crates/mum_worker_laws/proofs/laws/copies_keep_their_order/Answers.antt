use Rattle.mum_worker_laws.proofs.Going.{go_turns}
use Rattle.mum_worker_laws.proofs.laws.copies_keep_their_order.Goals as goal

pub returns : goal.returns
returns g c opening number pass journal opened worker turns slot begun all =
    (go_turns opening g.L.Link.facts opened turns worker all).copies slot
