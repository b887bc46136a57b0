-- Notices that are pending are posted and collected, one after the other, and leave a core at rest.
use Rattle.mum_laws.proofs.Common.{◌≡◌, ℕ, ◌<◌, Bool, true, false, cond, List, [], ◌∷◌, ◌++◌, length, drop, Option, Some, None, refl, sym, ap, subst, ◌∙◌, arith, inl, inr, ◌⊎◌, is_none, nat_lt, slice_get, slice_index_or, AllByRecursion, flat_map, option_map, cases_eq, lt-ltb, slice_get_within, POST_CAPACITY, Notice, Step, Collect, Post, Connection, Seat, fresh, lagging, CoreState, at_posts, at_session, connection_at, posts_at, up, does_from, is_for, takes, with_stale, IsRun, ran, changed_at, with_found, does, illegal, framed, notice_queues, changed_other, changed_same, length-changed, delivered, placed, brings}
use Rattle.mum_laws.proofs.Resting.{HasSeat, Rests, may_take, passed, seat_as}
use Rattle.mum_core.specs.steps.Post as post_step

-- ---- what stays while notices are brought

pub record Stays (old new : CoreState) : Type 0 where
  pub opening : new.opening ≡ old.opening
  pub accepted : new.accepted ≡ old.accepted
  pub published : new.published ≡ old.published
  pub connections : new.connections ≡ old.connections
  pub workers : new.workers ≡ old.workers

both_stay : (one two three : CoreState) → Stays one two → Stays two three → Stays one three
both_stay one two three first later = record {
  opening = later.opening ∙ first.opening;
  accepted = later.accepted ∙ first.accepted;
  published = later.published ∙ first.published;
  connections = later.connections ∙ first.connections;
  workers = later.workers ∙ first.workers;
}

abbrev pub AreEmpty : List (List Notice) → Type 0
AreEmpty posts = (slot : ℕ) → slice_index_or posts slot [] ≡ []

-- these notices are pending, and nothing else waits
pub record Pends (notices : List Notice) (core : CoreState) : Type 0 where
  pub pending : core.pending ≡ notices
  pub empty : AreEmpty core.posts

-- ---- a post

abbrev adding : Notice → List Notice → List Notice
adding notice posts = posts ++ notice ∷ []

-- the core after a notice that is posted where nothing waits
abbrev posted_core : CoreState → Notice → List Notice → CoreState
posted_core core notice rest = record (at_posts notice.slot.0 (adding notice) (record core { pending = rest; posted = up core.posted })) { line = up core.line }

puts_room : (b : Bool) (core : CoreState) (notice : Notice) → b ≡ true
    → cond b (at_posts notice.slot.0 (λ posts. posts ++ notice ∷ []) core) (at_session notice.to lagging core) ≡ at_posts notice.slot.0 (adding notice) core
puts_room true core notice on = refl
puts_room false core notice on = cc

post_is : (core : CoreState) (notice : Notice) (rest : List Notice) → Pends (notice ∷ rest) core → does core Post ≡ posted_core core notice rest
post_is core notice rest pends =
    let left : CoreState = record core { pending = rest; posted = up core.posted } in
    let room : post_step.has_room core notice.slot.0 ≡ true = ap (λ (posts : List Notice). nat_lt (length posts) POST_CAPACITY) (pends.empty notice.slot.0) in
    ap (λ (ns : List Notice). record (post_step.puts (record core { pending = drop 1 ns; posted = up core.posted }) (slice_get ns 0)) { line = up core.line }) pends.pending
    ∙ ap (λ (new : CoreState). record new { line = up core.line }) (puts_room (post_step.has_room left notice.slot.0) left notice room)

post_allowed : (core : CoreState) (notice : Notice) (rest : List Notice) → Pends (notice ∷ rest) core → illegal core Post ≡ None
post_allowed core notice rest pends = passed (is_none (post_step.next_notice core)) _ _ (ap (λ (ns : List Notice). is_none (slice_get ns 0)) pends.pending) refl

-- ---- and its collection

-- the posts of a slot that had none hold the notice, or there is no such slot
added : (posts : List (List Notice)) (slot : ℕ) (notice : Notice) → AreEmpty posts
    → AreEmpty (changed_at slot (adding notice) posts) ⊎ ((slice_index_or (changed_at slot (adding notice) posts) slot [] ≡ notice ∷ []) × AreEmpty (changed_at slot (λ (p : List Notice). drop 1 p) (changed_at slot (adding notice) posts)))
added posts slot notice empty = from (slice_get posts slot) refl
  where
    Holds : List (List Notice) → Type 0
    Holds new = AreEmpty new ⊎ ((slice_index_or new slot [] ≡ notice ∷ []) × AreEmpty (changed_at slot (λ (p : List Notice). drop 1 p) new))

    taken_out : slot < length posts → AreEmpty (changed_at slot (λ (p : List Notice). drop 1 p) (changed_at slot (adding notice) posts))
    taken_out within at = elim (cases_eq at slot) [
      | inl same ↦
          let many = length-changed posts slot (adding notice) in
          ap (λ (k : ℕ). slice_index_or (changed_at slot (λ (p : List Notice). drop 1 p) (changed_at slot (adding notice) posts)) k []) same
          ∙ changed_same (changed_at slot (adding notice) posts) slot (λ (p : List Notice). drop 1 p) [] (omega (arith, within, many))
          ∙ ap (λ (p : List Notice). drop 1 p) (changed_same posts slot (adding notice) [] within ∙ ap (adding notice) (empty slot))
      | inr other ↦
          changed_other (changed_at slot (adding notice) posts) slot at (λ (p : List Notice). drop 1 p) [] other
          ∙ changed_other posts slot at (adding notice) [] other ∙ empty at
    ]

    from : (o : Option (List Notice)) → slice_get posts slot ≡ o → Holds (changed_at slot (adding notice) posts)
    from None none = inl (subst (λ (found : Option (List Notice)). AreEmpty (with_found posts slot (adding notice) found)) (sym none) empty)
    from (Some box) found =
        let within : slot < length posts = slice_get_within posts slot box found in
        inr (changed_same posts slot (adding notice) [] within ∙ ap (adding notice) (empty slot), taken_out within)

gone : (b : Bool) (core : CoreState) (slot : ℕ) → AreEmpty (changed_at slot (λ (p : List Notice). drop 1 p) core.posts)
    → AreEmpty (cond b (at_posts slot (λ posts. drop 1 posts) core) (with_stale (at_posts slot (λ posts. drop 1 posts) core))).posts
gone true core slot empty = empty
gone false core slot empty = empty

taken_posts : (core : CoreState) (notice : Notice) (seat : Seat) (posts : List (List Notice)) → core.posts ≡ changed_at seat.slot.0 (adding notice) posts → AreEmpty posts
    → AreEmpty (takes notice_queues core seat (option_map framed (slice_get (posts_at core seat.slot.0) 0))).posts
taken_posts core notice seat posts is empty =
    elim (subst (λ (new : List (List Notice)). AreEmpty new ⊎ ((slice_index_or new seat.slot.0 [] ≡ notice ∷ []) × AreEmpty (changed_at seat.slot.0 (λ (p : List Notice). drop 1 p) new))) (sym is) (added posts seat.slot.0 notice empty)) [
      | inl none ↦
          subst (λ (box : List Notice). AreEmpty (takes notice_queues core seat (option_map framed (slice_get box 0))).posts) (sym (none seat.slot.0)) none
      | inr one ↦
          subst (λ (box : List Notice). AreEmpty (takes notice_queues core seat (option_map framed (slice_get box 0))).posts) (sym one.0)
          (gone (is_for notice.to seat) core seat.slot.0 one.1)
    ]

abbrev Kept : CoreState → CoreState → Type 0
Kept old new = Stays old new × (new.pending ≡ old.pending)

stands : (core : CoreState) → Stays core core
stands core = record { opening = refl; accepted = refl; published = refl; connections = refl; workers = refl }

collect_keeps : (core : CoreState) (seat : Option Seat) → Kept core (does_from notice_queues core seat)
collect_keeps core seat =
    delivered (Kept core) notice_queues core seat (stands core, refl)
    (λ slot. (record { opening = refl; accepted = refl; published = refl; connections = refl; workers = refl }, refl))
    (λ slot. (record { opening = refl; accepted = refl; published = refl; connections = refl; workers = refl }, refl))

-- ---- one notice

-- a list of connections that rest, in which each of these notices has its seat
pub record Takes (connections : List Connection) (notices : List Notice) : Type 0 where
  pub rest : (i : ℕ) → Rests (slice_index_or connections i (fresh 0))
  pub seats : AllByRecursion (λ notice. HasSeat (length connections) (λ i. (slice_index_or connections i (fresh 0)).seat) notice.to notice.slot) notices

-- what one notice leaves
record Brings (old : CoreState) (rest : List Notice) (new : CoreState) : Type 0 where
  stays : Stays old new
  pends : Pends rest new

seat_at : (core : CoreState) (notice : Notice) → HasSeat (length core.connections) (λ i. (slice_index_or core.connections i (fresh 0)).seat) notice.to notice.slot
    → (connection_at core notice.to.0).seat ≡ Some (seat_as notice.to notice.slot)
seat_at core notice has =
    let first : nat_lt 0 notice.to.0 ≡ true = lt-ltb 0 notice.to.0 (omega (arith, has.least)) in
    ap (λ (x : Connection). x.seat) (placed core notice.to.0 first) ∙ has.seat

one_collected : (core : CoreState) (notice : Notice) (rest : List Notice) → AreEmpty core.posts
    → HasSeat (length core.connections) (λ i. (slice_index_or core.connections i (fresh 0)).seat) notice.to notice.slot
    → Brings core rest (does (posted_core core notice rest) (Collect notice.to.0))
one_collected core notice rest empty has =
    let posted : CoreState = posted_core core notice rest in
    let seat : Seat = seat_as notice.to notice.slot in
    let own : (connection_at posted notice.to.0).seat ≡ Some seat = seat_at posted notice has in
    let kept = collect_keeps posted (connection_at posted notice.to.0).seat in
    let posts = taken_posts posted notice seat core.posts refl empty in
    record {
      stays = both_stay core posted (does posted (Collect notice.to.0)) (record { opening = refl; accepted = refl; published = refl; connections = refl; workers = refl })
          (record { opening = kept.0.opening; accepted = kept.0.accepted; published = kept.0.published; connections = kept.0.connections; workers = kept.0.workers });
      pends = record {
        pending = kept.1;
        empty = subst (λ (s : Option Seat). AreEmpty (does_from notice_queues posted s).posts) (sym own) posts;
      };
    }

one_brought : (core : CoreState) (notice : Notice) (rest : List Notice) → Pends (notice ∷ rest) core
    → HasSeat (length core.connections) (λ i. (slice_index_or core.connections i (fresh 0)).seat) notice.to notice.slot
    → Brings core rest (does (does core Post) (Collect notice.to.0))
one_brought core notice rest pends has =
    subst (λ (posted : CoreState). Brings core rest (does posted (Collect notice.to.0))) (sym (post_is core notice rest pends)) (one_collected core notice rest pends.empty has)

collected_next : (core : CoreState) (notice : Notice) (rest : List Notice) → Pends (notice ∷ rest) core → Takes core.connections (notice ∷ rest)
    → illegal (does core Post) (Collect notice.to.0) ≡ None
collected_next core notice rest pends takes =
    subst (λ (posted : CoreState). illegal posted (Collect notice.to.0) ≡ None) (sym (post_is core notice rest pends))
    (may_take (posted_core core notice rest) notice.to notice.slot takes.rest takes.seats.0)

-- ---- all of them

pub record AllBrought (old : CoreState) (steps : List Step) : Type 0 where
  pub allowed : IsRun old steps
  pub stays : Stays old (ran old steps)
  pub pends : Pends [] (ran old steps)

pub all_brought : (notices : List Notice) (core : CoreState) → Pends notices core → Takes core.connections notices → AllBrought core (flat_map brings notices)
all_brought [] core pends takes = record { allowed = tt; stays = stands core; pends = pends }
all_brought (notice ∷ rest) core pends takes =
    let one = one_brought core notice rest pends takes.seats.0 in
    let next : CoreState = does (does core Post) (Collect notice.to.0) in
    let left : Takes core.connections rest = record { rest = takes.rest; seats = takes.seats.1 } in
    let later = all_brought rest next one.pends (subst (λ (xs : List Connection). Takes xs rest) (sym one.stays.connections) left) in
    record {
      allowed = (post_allowed core notice rest pends, (collected_next core notice rest pends takes, later.allowed));
      stays = both_stay core next (ran next (flat_map brings rest)) one.stays later.stays;
      pends = later.pends;
    }
