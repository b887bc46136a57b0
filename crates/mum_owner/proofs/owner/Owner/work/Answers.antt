use Rattle.mum_owner.proofs.Common.{◌∙◌, Bool, ap, subst, sym, ◌&&◌, ◌||◌, not, has_note, Archives, has_ended, turn_of}
use Rattle.mum_owner.proofs.Noting.{noted_shown}
use Rattle.mum_owner.proofs.owner.Owner.work.Goals as goal

pub archive-archived-requires : goal.archive-archived-requires
archive-archived-requires g c = λ so.
    let made =
    c.makes_note-made.ensures ∙ ap (λ (b : Bool). not b && has_note c.serve_desk-served.new.self.kept.reply) c.has_reply-had_reply.ensures in
    noted_shown c.offer_kept-offered.new.self c.serve_desk-served.result c.serve_desk-served.new.self c.press-pressed.result c.press-pressed.new.self
    c.publish-published.result c.publish-published.new.self
    (sym (c.either-noted.ensures ∙ ap (λ (b : Bool). b || c.publish-published.result) made) ∙ so) c.serve_desk-served.ensures c.press-pressed.ensures c.publish-published.ensures

pub returns : goal.returns
returns g c = record {
  offered = c.offer_kept-offered.result;
  served = c.serve_desk-served.result;
  pressed = c.press-pressed.result;
  published = c.publish-published.result;
  archived = c.archive-archived.result;
  posted = c.post-posted.result;
  came = c.ask_door-came.result;
  after_offers = c.offer_kept-offered.new.self;
  after_desk = c.serve_desk-served.new.self;
  after_press = c.press-pressed.new.self;
  after_publish = c.publish-published.new.self;
  after_archive = c.archive-archived.new.self;
  after_post = c.post-posted.new.self;
  after_door = c.ask_door-came.new.self;
  offers = c.offer_kept-offered.ensures;
  serves = c.serve_desk-served.ensures;
  presses = c.press-pressed.ensures;
  publishes = c.publish-published.ensures;
  archives =
      let made =
      c.makes_note-made.ensures ∙ ap (λ (b : Bool). not b && has_note c.serve_desk-served.new.self.kept.reply) c.has_reply-had_reply.ensures in
      subst (λ (b : Bool). Archives b c.publish-published.new.self c.archive-archived.result c.archive-archived.new.self)
      (c.either-noted.ensures ∙ ap (λ (b : Bool). b || c.publish-published.result) made) c.archive-archived.ensures;
  posts = c.post-posted.ensures;
  asks = c.ask_door-came.ensures;
  ends = c.end.ensures;
  came_to =
      c.turn_of.ensures ∙ ap (λ (b : Bool). turn_of b c.any_of-worked.result) c.has_ended-has_ended.ensures
      ∙ ap (λ (b : Bool). turn_of (has_ended c.end.new.self) b)
      (c.any_of-worked.ensures
      ∙ ap
      (λ (b : Bool). c.offer_kept-offered.result || (c.serve_desk-served.result || (c.press-pressed.result || (c.publish-published.result || (c.archive-archived.result || b)))))
      c.either-behind.ensures);
}
