-- Passes of boxes: how they are made, and how they are used at a place.
use Rattle.mum_control.proofs.Common.{◌≡◌, ◌∙◌, ℕ, ◌<◌, List, [], ◌∷◌, ◌++◌, length, map, None, refl, ap, subst, append_assoc, slice_index_or, slice_set, length-map, slice_get_read, PostFacts, POST_CAPACITY, Offered, Tagged, Offers, Takes, new_pass, PassFacts, QueueFacts, EmptiesAt, IsEmptied, OffersAt}

-- as many passes as boxes
pub as_many : (posts : List (PassFacts PostFacts)) (queues : List QueueFacts) → posts ≡ map new_pass queues → length posts ≡ length queues
as_many posts queues same = ap length same ∙ length-map queues new_pass

-- ---- a box that is emptied

pub taken_more : (old pass after : PassFacts PostFacts) (taken : List (Tagged PostFacts)) (x : Tagged PostFacts)
    → pass ≡ record old { taken = old.taken ++ taken } → after ≡ record pass { taken = pass.taken ++ x ∷ [] }
    → after ≡ record old { taken = old.taken ++ (taken ++ x ∷ []) }
taken_more old pass after taken x so_far takes =
    takes ∙ ap (λ (p : PassFacts PostFacts). record p { taken = p.taken ++ x ∷ [] }) so_far
    ∙ ap (λ (t : List (Tagged PostFacts)). record old { taken = t }) (append_assoc old.taken taken (x ∷ []))

pub emptied_so : (old pass after : PassFacts PostFacts) (taken : List (Tagged PostFacts))
    → pass ≡ record old { taken = old.taken ++ taken } → Takes POST_CAPACITY pass None after → IsEmptied old after
emptied_so old pass after taken so_far takes =
    record { taken = taken; last = subst (λ (p : PassFacts PostFacts). Takes POST_CAPACITY p None after) so_far takes }

-- ---- the box at a place

pub offered_at : (posts : List (PassFacts PostFacts)) (place : ℕ) (before later : PassFacts PostFacts) (parcel : PostFacts) (offered : Offered PostFacts)
    → place < length posts → before ≡ slice_index_or posts place before → Offers POST_CAPACITY before parcel offered later
    → OffersAt posts place parcel offered (slice_set posts place later)
offered_at posts place before later parcel offered within is offers = record {
  before = before;
  later = later;
  box = slice_get_read posts (length posts) place before refl within is;
  offers = offers;
  others = refl;
}

pub emptied_at : (posts : List (PassFacts PostFacts)) (place : ℕ) (before later : PassFacts PostFacts)
    → place < length posts → before ≡ slice_index_or posts place before → IsEmptied before later
    → EmptiesAt posts place (slice_set posts place later)
emptied_at posts place before later within is emptied = record {
  before = before;
  later = later;
  box = slice_get_read posts (length posts) place before refl within is;
  emptied = emptied;
  others = refl;
}
