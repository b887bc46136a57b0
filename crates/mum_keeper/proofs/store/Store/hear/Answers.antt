use Rattle.mum_keeper.proofs.Common.{Some, None, ap, refl, subst, BellFacts, TakesRing, ring_of, Heeds, StoreFacts}
use Rattle.mum_keeper.proofs.store.Store.hear.Goals as goal

pub returns-in-Some : goal.returns-in-Some
returns-in-Some g c = record {
  ring = Some (ring_of c.in-Some.item);
  bell = c.take.new.self;
  takes = subst (λ (b : BellFacts). TakesRing b (Some (ring_of c.in-Some.item)) c.take.new.self)
      (ap (λ (s : StoreFacts g.row.P.Denot). s.bell) c.self.view_is) c.in-Some.ensures;
  heeds = (
    c.heed.result,
    subst (λ (s : StoreFacts g.row.P.Denot). Heeds g.P.Keeper.facts s (ring_of c.in-Some.item) c.heed.result c.heed.new.self)
        (ap (λ (s : StoreFacts g.row.P.Denot). record s { bell = c.take.new.self }) c.self.view_is) c.heed.ensures,
  );
  took_is = refl;
}

pub returns-in-None : goal.returns-in-None
returns-in-None g c = record {
  ring = None;
  bell = c.take.new.self;
  takes = subst (λ (b : BellFacts). TakesRing b None c.take.new.self) (ap (λ (s : StoreFacts g.row.P.Denot). s.bell) c.self.view_is) c.in-None.ensures;
  heeds = ap (λ (s : StoreFacts g.row.P.Denot). record s { bell = c.take.new.self }) c.self.view_is;
  took_is = refl;
}
