use Rattle.mum_owner.proofs.Common.{subst, Comes, Lagging, ReplyFacts, KeptFacts, OffersOne, Coming, Lag}
use Rattle.mum_published.specs.Bell.Rung.{Answer}
use Rattle.mum_owner.proofs.kept.Kept.offer.Goals as goal

pub returns : goal.returns
returns g c = record {
  reply = c.offer_reply-reply.result;
  lag = c.offer_lag-lag.result;
  coming = c.offer_coming-coming.result;
  told = c.tell_where-told.result;
  after_reply = c.offer_reply-reply.new.bells;
  after_lag = c.offer_lag-lag.new.bells;
  after_coming = c.offer_coming-coming.new.bells;
  offers_reply =
      subst
      (λ (k : KeptFacts g.row.L.Denot). OffersOne (λ (reply : ReplyFacts). reply.connection) Answer c.args.bells.now k.reply c.offer_reply-reply.result c.offer_reply-reply.new.bells c.offer_reply-reply.new.kept)
      c.self.view_is c.offer_reply-reply.ensures;
  offers_lag =
      subst
      (λ (k : KeptFacts g.row.L.Denot). OffersOne (λ (lag : Lag). lag.connection) (λ (lag : Lag). Lagging lag.session) c.offer_reply-reply.new.bells k.lag c.offer_lag-lag.result c.offer_lag-lag.new.bells c.offer_lag-lag.new.kept)
      c.self.view_is c.offer_lag-lag.ensures;
  offers_coming =
      subst
      (λ (k : KeptFacts g.row.L.Denot). OffersOne (λ (coming : Coming g.row.L.Denot). coming.connection) (λ (coming : Coming g.row.L.Denot). Comes coming.connection coming.link) c.offer_lag-lag.new.bells k.coming c.offer_coming-coming.result c.offer_coming-coming.new.bells c.offer_coming-coming.new.kept)
      c.self.view_is c.offer_coming-coming.ensures;
  tells = c.tell_where-told.ensures;
  so = c.one_of.ensures;
}
