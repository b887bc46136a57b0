use Rattle.mum_worker_laws.proofs.Common.{subst, All, PassFacts, SeesFrom, history}
use Rattle.mum_worker_laws.proofs.Going.{go_turns}
use Rattle.mum_worker_laws.proofs.laws.later_looks_see_more.Goals as goal

pub returns-clause-follows : goal.returns-clause-follows
returns-clause-follows g c opening number pass journal opened worker turns begun all =
    (go_turns opening g.L.Link.facts opened turns worker all).pairs

pub returns-clause-known : goal.returns-clause-known
returns-clause-known g c opening number pass journal opened worker turns begun all =
    subst (λ (p : PassFacts). All (SeesFrom p.known) (history g.L.Link.facts opening opened turns worker all)) begun.pass_is
    (go_turns opening g.L.Link.facts opened turns worker all).beyond
