use Rattle.mum_keeper.proofs.Common.{◌∙◌, ap, subst, sym, PassFacts, AreSeenAt, MirrorFacts, Observes, StoreFacts}
use Rattle.mum_keeper.proofs.{Observing.observes, Observing.observes_nothing, Seeing.compared_seen, Seeing.looked_seen}
use Rattle.mum_keeper.proofs.store.Store.observe.Goals as goal

pub compare-end-requires : goal.compare-end-requires
compare-end-requires g c = c.in-Ok.ensures.finds.ordered

pub invariant_of-self : goal.invariant_of-self
invariant_of-self g c = (
  ap (λ (p : PassFacts). p.opening) c.in-Ok.ensures.asked ∙ c.self.invariant.0,
  compared_seen c.self.inside.pass c.look_once.new.pass c.self.inside.mirror.rows c.compare-end.new.self.rows c.in-Ok.found c.compare-end.result
      c.self.inside.policies c.policies_left-self-inside.result c.self.invariant.1 c.in-Ok.ensures
      (ap (λ (m : MirrorFacts g.row.P.Denot). m.rows) c.compare-end.ensures.leaves) c.policies_left-self-inside.ensures,
)

pub invariant_of-self-in-Err : goal.invariant_of-self-in-Err
invariant_of-self-in-Err g c = (
  ap (λ (p : PassFacts). p.opening) c.in-Err.ensures.asked ∙ c.self.invariant.0,
  subst (λ (m : MirrorFacts g.row.P.Denot). AreSeenAt c.look_once.new.pass m.rows c.self.inside.policies) (sym c.starve.ensures.starved)
      (looked_seen c.self.inside.pass c.look_once.new.pass c.self.inside.mirror.rows c.self.inside.policies _ c.self.invariant.1 c.in-Err.ensures),
)

pub returns-in-Ok : goal.returns-in-Ok
returns-in-Ok g c =
    let inside : StoreFacts g.row.P.Denot = record { pass = c.self.inside.pass; bell = c.self.inside.bell; mirror = c.self.inside.mirror; ended = c.self.inside.ended } in
    subst (λ (s : StoreFacts g.row.P.Denot). Observes g.P.Keeper.facts s c.compare-end.result (record inside { pass = c.look_once.new.pass; mirror = c.compare-end.new.self })) c.self.view_is
    (observes g.P.Keeper.facts inside c.look_once.new.pass c.in-Ok.found c.compare-end.new.self c.compare-end.result c.in-Ok.ensures c.compare-end.ensures)

pub returns-in-Err : goal.returns-in-Err
returns-in-Err g c =
    let inside : StoreFacts g.row.P.Denot = record { pass = c.self.inside.pass; bell = c.self.inside.bell; mirror = c.self.inside.mirror; ended = c.self.inside.ended } in
    subst (λ (s : StoreFacts g.row.P.Denot). Observes g.P.Keeper.facts s c.starve.result (record inside { pass = c.look_once.new.pass; mirror = c.starve.new.self })) c.self.view_is
    (observes_nothing g.P.Keeper.facts inside c.look_once.new.pass _ c.starve.new.self c.starve.result c.in-Err.ensures c.starve.ensures.end c.starve.ensures.starved)
