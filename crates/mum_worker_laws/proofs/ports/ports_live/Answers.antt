use Rattle.mum_worker_laws.proofs.{Ending.all_orderly, Lasting.have_lived, Lasting.opened_settled, Rising.one_each}
use Rattle.mum_worker_laws.proofs.ports.ports_live.Goals as goal

pub returns-clause-lives : goal.returns-clause-lives
returns-clause-lives g c opening number pass journal opened old worker before turns begun first all =
    have_lived g.L.Link.facts opening old turns worker all
    (opened_settled g.L.Link.facts opening number pass journal opened before old begun first)
    (one_each g.L.Link.facts opening number pass journal opened before old turns worker begun first all)

pub returns-clause-orderly : goal.returns-clause-orderly
returns-clause-orderly g c opening number pass journal opened worker turns begun all lived =
    all_orderly g.L.Link.facts opening number pass journal opened turns worker begun all lived
