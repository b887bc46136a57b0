use Rattle.mum_worker_laws.proofs.Common.{◌∙◌, ap, PassFacts, have_entries, kept_of, moments_of, packets_in}
use Rattle.mum_worker_laws.proofs.Going.{go_turn, go_turns}
use Rattle.mum_worker_laws.proofs.laws.routes_are_kept.Goals as goal

pub returns : goal.returns
returns g c opening number pass journal opened old new before answer begun own proper turns turned =
    let link = g.L.Link in
    let earlier = go_turns opening link.facts opened before old turns in
    have_entries opening proper (packets_in (moments_of link.facts opening old new answer turned))
    (kept_of old.common.router) (kept_of new.common.router)
    ((go_turn opening link.facts old new answer turned).sees
    (earlier.opened ∙ ap (λ (p : PassFacts). p.opening) begun.pass_is ∙ own))
