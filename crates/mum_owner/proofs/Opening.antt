-- What an owner was opened with stays, over each part of a turn.
use Rattle.mum_owner.proofs.Common.{◌≡◌, ◌∙◌, Bool, true, false, cond, refl, ap, sym, subst, ◌↔◌, ◌&&◌, IsTrue, is_none, Turn, Done, Accept, DoorFacts, LinkFacts, GuestsFacts, OwnerFacts, Asks, Offered, OwnerTurned, guests_by, has_ended, is_over, turn_of}
use Rattle.mum_owner.proofs.Steps.{DeskStays, LagStays, PublishStays, desk_stays, post_stays, press_stays, shown_stays}
use Rattle.mum_io.specs.declared.door.Accept.TheVariants as accepted

-- ---- the outcome of a turn

pub done_so : (has worked : Bool) → (turn_of has worked ≡ Done) ↔ IsTrue has
done_so true worked = (λ so. refl, λ so. refl)
done_so false true = (λ so. cc, λ so. cc)
done_so false false = (λ so. cc, λ so. cc)

-- ---- the connections

guests_limit : {L : Type 0} (link_facts : L → LinkFacts) (answer : Accept L) (guests : GuestsFacts) → (guests_by link_facts answer guests).limit ≡ guests.limit
guests_limit link_facts (accepted.Conn link) guests = refl
guests_limit link_facts accepted.NotYet guests = refl
guests_limit link_facts accepted.End guests = refl
guests_limit link_facts accepted.Failed guests = refl

module _ {D L : Type 0} where
  -- the connections that are given in all, and whether a journal is kept, are as before
  pub record SameOpening (old new : OwnerFacts D L) : Type 0 where
    pub limit : new.guests.limit ≡ old.guests.limit
    pub asked : new.scribe.is_asked ≡ old.scribe.is_asked

  same : (old : OwnerFacts D L) → SameOpening old old
  same old = record { limit = refl; asked = refl }

  by_equal : (old new : OwnerFacts D L) → new ≡ old → SameOpening old new
  by_equal old new is = record { limit = ap (λ (o : OwnerFacts D L). o.guests.limit) is; asked = ap (λ (o : OwnerFacts D L). o.scribe.is_asked) is }

  after : (old mid new : OwnerFacts D L) → SameOpening old mid → SameOpening mid new → SameOpening old new
  after old mid new one other = record { limit = other.limit ∙ one.limit; asked = other.asked ∙ one.asked }

  -- ---- the parts

  offered_so : (old : OwnerFacts D L) (worked : Bool) (new : OwnerFacts D L) → Offered old worked new → SameOpening old new
  offered_so old worked new offers = record {
    limit = ap (λ (o : OwnerFacts D L). o.guests.limit) offers.others;
    asked = ap (λ (o : OwnerFacts D L). o.scribe.is_asked) offers.others;
  }

  served_so : (old new : OwnerFacts D L) → DeskStays old new → SameOpening old new
  served_so old new stays = record { limit = stays.limit; asked = stays.asked }

  lagged_so : (old new : OwnerFacts D L) → LagStays old new → SameOpening old new
  lagged_so old new stays = record { limit = stays.limit; asked = stays.asked }

  published_so : (old new : OwnerFacts D L) → PublishStays old new → SameOpening old new
  published_so old new stays = record { limit = ap (λ (g : GuestsFacts). g.limit) stays.guests; asked = stays.asked }

  ended_by : (b : Bool) (owner : OwnerFacts D L) → SameOpening owner (cond b (record owner { is_ending = true }) owner)
  ended_by true owner = record { limit = refl; asked = refl }
  ended_by false owner = same owner

module _ {D L : Type 0} (door_facts : D → DoorFacts) (link_facts : L → LinkFacts) where
  asks_so : (b : Bool) (old : OwnerFacts D L) (worked : Bool) (new : OwnerFacts D L) → Asks door_facts link_facts b old worked new → SameOpening old new
  asks_so true old worked new rests = by_equal old new rests.1
  asks_so false old worked new asks = record {
    limit = ap (λ (o : OwnerFacts D L). o.guests.limit) asks.others ∙ guests_limit link_facts asks.answer old.guests;
    asked = ap (λ (o : OwnerFacts D L). o.scribe.is_asked) asks.others;
  }

  -- over a whole turn
  pub opening_stays : (old : OwnerFacts D L) (turn : Turn) (new : OwnerFacts D L) → OwnerTurned door_facts link_facts old turn new → SameOpening old new
  opening_stays old turn new t =
      let one = offered_so old t.offered t.after_offers t.offers in
      let two = served_so t.after_offers t.after_desk (desk_stays t.after_offers t.served t.after_desk t.serves) in
      let three = lagged_so t.after_desk t.after_press (press_stays t.after_desk t.pressed t.after_press t.presses) in
      let four = published_so t.after_press t.after_archive (shown_stays t.after_press t.published t.after_publish _ t.archived t.after_archive t.publishes t.archives) in
      let five = lagged_so t.after_archive t.after_post (post_stays t.after_archive t.posted t.after_post t.posts) in
      let six = asks_so _ t.after_post t.came t.after_door t.asks in
      let seven = ended_by (is_over t.after_door && is_none t.after_door.kept.coming) t.after_door in
      let all = after old t.after_post t.after_door (after old t.after_archive t.after_post (after old t.after_press t.after_archive
      (after old t.after_desk t.after_press (after old t.after_offers t.after_desk one two) three) four) five) six in
      record {
        limit = ap (λ (o : OwnerFacts D L). o.guests.limit) t.ends ∙ seven.limit ∙ all.limit;
        asked = ap (λ (o : OwnerFacts D L). o.scribe.is_asked) t.ends ∙ seven.asked ∙ all.asked;
      }

  pub done_where_ended : (old : OwnerFacts D L) (turn : Turn) (new : OwnerFacts D L) → OwnerTurned door_facts link_facts old turn new → (turn ≡ Done) ↔ IsTrue (has_ended new)
  done_where_ended old turn new t = subst (λ (u : Turn). (u ≡ Done) ↔ IsTrue (has_ended new)) (sym t.came_to) (done_so (has_ended new) _)
