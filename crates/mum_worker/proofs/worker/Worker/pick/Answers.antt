use Rattle.mum_worker.proofs.CommonNames.{ap, sym, subst, ◌∙◌, RouterFacts, EntryStood, plain_parts, WorkerFacts}
use Rattle.mum_worker.proofs.Stood.{stood_for}
use Rattle.mum_worker.proofs.worker.Worker.pick.Goals as goal

pub returns-clause-steps : goal.returns-clause-steps
returns-clause-steps g c =
    let opening = g.N.Naming.opening in
    let packet = plain_parts c.args.packet.now in
    λ stood.
    c.pick.ensures.steps
    (subst (λ (r : RouterFacts). EntryStood opening r c.in-Some.speaker packet c.pick.new.self.router)
    (sym (ap (λ (w : WorkerFacts g.row.L.Denot). w.common.router) c.self.view_is))
    (stood_for opening c.args.self.now _ c.args.port.0 packet c.in-Some.speaker (sym c.speaker.ensures ∙ c.in-Some.is) stood))
