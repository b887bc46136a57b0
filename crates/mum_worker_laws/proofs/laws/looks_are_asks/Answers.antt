use Rattle.mum_worker_laws.proofs.Common.{◌∙◌, ◌++◌, ap, map, PassFacts, ask_made, history, looks_in}
use Rattle.mum_worker_laws.proofs.Going.{go_turns}
use Rattle.mum_worker_laws.proofs.laws.looks_are_asks.Goals as goal

pub returns : goal.returns
returns g c opening number pass journal opened worker turns begun all =
    (go_turns opening g.L.Link.facts opened turns worker all).asks
    ∙ ap (λ (p : PassFacts). p.asks ++ map ask_made (looks_in (history g.L.Link.facts opening opened turns worker all))) begun.pass_is
