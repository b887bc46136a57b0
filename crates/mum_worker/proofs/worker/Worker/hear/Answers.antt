use Rattle.mum_worker.proofs.CommonNames.{Some, ap, refl, subst, rung, BellFacts, TakesRung, WorkerFacts, Heeds}
use Rattle.mum_worker.proofs.worker.Worker.hear.Goals as goal

pub returns-in-Some : goal.returns-in-Some
returns-in-Some g c = record {
  item = Some (rung c.in-Some.item);
  bell = c.take.new.self;
  takes = subst (λ (b : BellFacts g.row.L.Denot). TakesRung b (Some (rung c.in-Some.item)) c.take.new.self)
      (ap (λ (w : WorkerFacts g.row.L.Denot). w.bell) c.self.view_is) c.in-Some.ensures;
  hears = subst (λ (w : WorkerFacts g.row.L.Denot). Heeds g.L.Link.facts (rung c.in-Some.item) w c.heed.new.self)
      (ap (λ (w : WorkerFacts g.row.L.Denot). record w { bell = c.take.new.self }) c.self.view_is) c.heed.ensures;
  heard_is = refl;
}
