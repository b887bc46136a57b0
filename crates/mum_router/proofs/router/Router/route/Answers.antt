use Rattle.mum_router.proofs.Common.{◌-◌, List, length, ap, subst, sym, plain_parts, Hearer, RouterFacts, DeliversEach, Looks}
use Rattle.mum_router.proofs.{Completed.routes, Copies.of_draft}
use Rattle.mum_router.proofs.router.Router.route.Goals as goal

pub returns-clause-routes : goal.returns-clause-routes
returns-clause-routes g c =
    let opening = g.N.Naming.opening in
    let packet = plain_parts c.args.packet.now in
    let inside = c.self.inside in
    let mid : RouterFacts = record { pass = inside.pass; caches = inside.caches; hearers = inside.hearers; outs = inside.outs.items; marks = inside.marks } in
    let done = c.deliver_each-sent in
    let same = c.as_slice-hearers.ensures.all in
    let looks : Looks opening c.args.self.now c.args.speaker packet mid =
    subst (λ (r : RouterFacts). Looks opening c.args.self.now c.args.speaker packet r) (sym c.self.view_is) c.look.ensures.looks in
    let each = subst (λ (hs : List Hearer). DeliversEach inside.pass.known c.args.speaker packet hs inside.outs.items done.new.outs.items done.new.marks done.result) same
    (of_draft inside.pass c.note.result c.new-draft.result c.args.speaker packet _ _ _ _ _ c.note.ensures c.new-draft.ensures.note c.new-draft.ensures.speaker done.ensures.each) in
    routes opening c.args.self.now mid done.new.outs.items done.new.marks c.args.speaker packet _ looks each
    c.revision.ensures (ap (λ (hs : List Hearer). length hs - done.result) same)
