-- The notices of accepted edits are posted in their order, and what is posted into a slot leaves it in order, or waits there.
use Rattle.mum_core.proofs.Common.{◌≡◌, ℕ, ◌<◌, Bool, true, false, cond, List, [], ◌∷◌, ◌++◌, length, take, drop, zero, suc, replicate, Option, Some, None, refl, sym, ap, subst, ◌∙◌, append_assoc, filter, slice_get, slice_index_or, ◌==◌, option_map, option_map_or, eqb-false, eqb-true, append-nil, length-replicate, take-append-drop, Verdict, StateValue, Notice, packet, Version, Step, Open, Frame, Publish, Tell, Look, Offer, Post, Drain, Collect, Close, End, Action, Voice, Seat, SLOTS, Outgoing, CoreState, start, connection_at, current, posts_at, at_posts, at_session, collected, collected_by, gathered, noticed, offered, posted_in, ran, lagging, changed_at, does, frame_action, frame_version, does_from, is_for, takes, with_stale, copy_queues, framed, notice_queues, HeldPacket, spoken}
use Rattle.mum_core.proofs.{Delivered.delivered, Changed.changed_other, Changed.changed_same, Changed.length-changed, RunLaws.posting_core, RunLaws.taken_core, RunLaws.told_core}
use Rattle.mum_record.specs.declared.step.Step.TheVariants as steps
use Rattle.mum_core.specs.steps.Edit as edit_step
use Rattle.mum_core.specs.steps.Frame as frame_step
use Rattle.mum_core.specs.steps.Offer as offer_step
use Rattle.mum_core.specs.steps.Post as post_step
use Rattle.mum_core.specs.steps.Tell as tell_step

-- ---- steps that neither notice, post nor collect

abbrev pub Quiet : CoreState → CoreState → Type 0
Quiet old new = (new.pending ≡ old.pending) × (new.posts ≡ old.posts)

cond_quiet : (b : Bool) (core x y : CoreState) → Quiet core x → Quiet core y → Quiet core (cond b x y)
cond_quiet true core x y hx hy = hx
cond_quiet false core x y hx hy = hy

hears_quiet : (core : CoreState) (w : ℕ) (held : Option HeldPacket) → Quiet core (frame_step.hears core w held)
hears_quiet core w (Some held) = (refl, refl)
hears_quiet core w None = (refl, refl)

pub frame_quiet : (core : CoreState) (c : ℕ) (version : Option ℕ) (a : Action) → Quiet core (frame_step.does core c version a)
frame_quiet core c version (Voice payload) = hears_quiet core (connection_at core c).worker (spoken (connection_at core c).seat (packet payload))
frame_quiet core c version others = (refl, refl)

pub notes_quiet : (core : CoreState) (w : ℕ) (revision : Option ℕ) → Quiet core (tell_step.notes w revision core)
notes_quiet core w None = (refl, refl)
notes_quiet core w (Some revision) = (refl, refl)

pub puts_quiet : (core : CoreState) (next : Option Outgoing) → Quiet core (offer_step.puts core next)
puts_quiet core None = (refl, refl)
puts_quiet core (Some next) = cond_quiet (offer_step.has_room core next.slot.0) core _ _ (refl, refl) (refl, refl)

pub drain_quiet : (core : CoreState) (seat : Option Seat) → Quiet core (does_from copy_queues core seat)
drain_quiet core seat = delivered (Quiet core) copy_queues core seat (refl, refl) (λ slot. (refl, refl)) (λ slot. (refl, refl))

-- ---- pending

abbrev pub Waits : CoreState → CoreState → List Notice → List Notice → Type 0
Waits old new told out = old.pending ++ told ≡ out ++ new.pending

waits_by : (old new : CoreState) → Quiet old new → Waits old new [] []
waits_by old new same = append-nil old.pending ∙ sym same.0

edit_waits : (core : CoreState) (c : ℕ) (decided : Option Verdict)
    → Waits core (option_map_or (edit_step.decides core c) decided core) (option_map_or (edit_step.noticed (current core)) decided []) []
edit_waits core c None = append-nil core.pending
edit_waits core c (Some verdict) = refl

cond_pending : (b : Bool) (core x y : CoreState) → x.pending ≡ core.pending → y.pending ≡ core.pending → (cond b x y).pending ≡ core.pending
cond_pending true core x y hx hy = hx
cond_pending false core x y hx hy = hy

post_pending : (core : CoreState) (next : Option Notice) → (post_step.puts core next).pending ≡ core.pending
post_pending core None = refl
post_pending core (Some next) = cond_pending (post_step.has_room core next.slot.0) core _ _ refl refl

post_waits : (core : CoreState) → Waits core (does core Post) [] (take 1 core.pending)
post_waits core =
    append-nil core.pending ∙ sym (take-append-drop 1 core.pending)
    ∙ ap (λ (xs : List Notice). take 1 core.pending ++ xs) (sym (post_pending (posting_core core) (post_step.next_notice core)))

collect_pending : (core : CoreState) (seat : Option Seat) → (does_from notice_queues core seat).pending ≡ core.pending
collect_pending core seat = delivered (λ new. new.pending ≡ core.pending) notice_queues core seat refl (λ slot. refl) (λ slot. refl)

pub waits : (core : CoreState) (step : Step) → Waits core (does core step) (noticed core step) (offered core step)
waits core (Open c w) = append-nil core.pending
waits core (Frame c bytes) = waits_by core (does core (Frame c bytes)) (frame_quiet core c (frame_version core c bytes) (frame_action core c bytes))
waits core (steps.Edit c) = edit_waits core c (edit_step.decision core c)
waits core Publish = append-nil core.pending
waits core (Tell c revision) = waits_by core (does core (Tell c revision)) (notes_quiet (told_core core c) (connection_at core c).worker revision)
waits core (Look w revision) = append-nil core.pending
waits core (Offer w) = waits_by core (does core (Offer w)) (puts_quiet (taken_core core w) (offer_step.next_copy core w))
waits core Post = post_waits core
waits core (Drain c) = waits_by core (does core (Drain c)) (drain_quiet core (connection_at core c).seat)
waits core (Collect c) = append-nil core.pending ∙ sym (collect_pending core (connection_at core c).seat)
waits core (Close c cause) = append-nil core.pending
waits core End = append-nil core.pending

-- what was there, what comes, what goes and what is there then, joined over two steps
joined : (old told next out new more last : List Notice) → old ++ told ≡ out ++ new → new ++ next ≡ more ++ last → old ++ (told ++ next) ≡ (out ++ more) ++ last
joined old told next out new more last first later =
    sym (append_assoc old told next) ∙ ap (λ (xs : List Notice). xs ++ next) first ∙ append_assoc out new next
    ∙ ap (λ (xs : List Notice). out ++ xs) later ∙ sym (append_assoc out more last)

waits_all : (core : CoreState) (run : List Step) → core.pending ++ gathered noticed core run ≡ gathered offered core run ++ (ran core run).pending
waits_all core [] = append-nil core.pending
waits_all core (step ∷ run) =
    joined core.pending (noticed core step) (gathered noticed (does core step) run) (offered core step) (does core step).pending (gathered offered (does core step) run) (ran (does core step) run).pending
    (waits core step) (waits_all (does core step) run)

pub notices_are_posted : (version : Version) (opening : StateValue) (workers : ℕ) (run : List Step)
    → gathered noticed (start version opening workers) run ≡ gathered offered (start version opening workers) run ++ (ran (start version opening workers) run).pending
notices_are_posted version opening workers run = waits_all (start version opening workers) run

-- ---- the posts of a slot

abbrev Conserved : ℕ → CoreState → CoreState → List Notice → List Notice → Type 0
Conserved slot old new put out = posts_at old slot ++ put ≡ out ++ posts_at new slot

conserved_by : (slot : ℕ) (old new : CoreState) → new.posts ≡ old.posts → Conserved slot old new [] []
conserved_by slot old new same = append-nil (posts_at old slot) ∙ ap (λ (posts : List (List Notice)). slice_index_or posts slot []) (sym same)

pub decided_posts : (core : CoreState) (c : ℕ) (decided : Option Verdict) → (option_map_or (edit_step.decides core c) decided core).posts ≡ core.posts
decided_posts core c None = refl
decided_posts core c (Some verdict) = refl

put_conserved : (slot : ℕ) (core : CoreState) (next : Notice) (at : Bool) → (next.slot.0 == slot) ≡ at → slot < length core.posts
    → posts_at core slot ++ cond at (next ∷ []) [] ≡ slice_index_or (changed_at next.slot.0 (λ posts. posts ++ next ∷ []) core.posts) slot []
put_conserved slot core next true e within =
    let here : next.slot.0 ≡ slot = eqb-true next.slot.0 slot e in
    sym (changed_same core.posts slot (λ posts. posts ++ next ∷ []) [] within)
    ∙ ap (λ (n : ℕ). slice_index_or (changed_at n (λ (posts : List Notice). posts ++ next ∷ []) core.posts) slot []) (sym here)
put_conserved slot core next false e within =
    append-nil (posts_at core slot) ∙ sym (changed_other core.posts next.slot.0 slot (λ posts. posts ++ next ∷ []) [] (λ same. eqb-false next.slot.0 slot e (sym same)))

post_conserved : (slot : ℕ) (core : CoreState) (pending : List Notice) → slot < length core.posts
    → posts_at core slot ++ filter (λ (notice : Notice). notice.slot.0 == slot) (filter (λ (notice : Notice). post_step.has_room core notice.slot.0) (take 1 pending))
    ≡ posts_at (post_step.puts core (slice_get pending 0)) slot
post_conserved slot core [] within = append-nil (posts_at core slot)
post_conserved slot core (next ∷ pending) within = from (post_step.has_room core next.slot.0)
  where
    from : (b : Bool) → posts_at core slot ++ filter (λ (notice : Notice). notice.slot.0 == slot) (cond b (next ∷ []) [])
        ≡ posts_at (cond b (at_posts next.slot.0 (λ posts. posts ++ next ∷ []) core) (at_session next.to lagging core)) slot
    from true = put_conserved slot core next (next.slot.0 == slot) refl within
    from false = append-nil (posts_at core slot)

-- the front goes, whoever's it is
gone_posts : (core : CoreState) (seat : Seat) (front : Notice) → (takes notice_queues core seat (Some (framed front))).posts ≡ changed_at seat.slot.0 (λ posts. drop 1 posts) core.posts
gone_posts core seat front = from (is_for front.to seat)
  where
    from : (b : Bool) → (cond b (at_posts seat.slot.0 (λ posts. drop 1 posts) core) (with_stale (at_posts seat.slot.0 (λ posts. drop 1 posts) core))).posts
        ≡ changed_at seat.slot.0 (λ posts. drop 1 posts) core.posts
    from true = refl
    from false = refl

gone_conserved : (slot : ℕ) (core : CoreState) (seat : Seat) (front : Notice) (rest : List Notice) (at : Bool) → (seat.slot.0 == slot) ≡ at → posts_at core seat.slot.0 ≡ front ∷ rest → slot < length core.posts
    → posts_at core slot ++ [] ≡ cond at (front ∷ []) [] ++ slice_index_or (changed_at seat.slot.0 (λ posts. drop 1 posts) core.posts) slot []
gone_conserved slot core seat front rest true e box within =
    let here : seat.slot.0 ≡ slot = eqb-true seat.slot.0 slot e in
    let mine : posts_at core slot ≡ front ∷ rest = ap (posts_at core) (sym here) ∙ box in
    let after : slice_index_or (changed_at slot (λ posts. drop 1 posts) core.posts) slot [] ≡ drop 1 (posts_at core slot) = changed_same core.posts slot (λ posts. drop 1 posts) [] within in
    let there : slice_index_or (changed_at seat.slot.0 (λ posts. drop 1 posts) core.posts) slot [] ≡ rest =
    ap (λ (n : ℕ). slice_index_or (changed_at n (λ posts. drop 1 posts) core.posts) slot []) here ∙ after ∙ ap (drop 1) mine in
    append-nil (posts_at core slot) ∙ mine ∙ ap (λ (xs : List Notice). front ∷ xs) (sym there)
gone_conserved slot core seat front rest false e box within =
    append-nil (posts_at core slot) ∙ sym (changed_other core.posts seat.slot.0 slot (λ posts. drop 1 posts) [] (λ same. eqb-false seat.slot.0 slot e (sym same)))

collects_conserved : (slot : ℕ) (core : CoreState) (seat : Seat) (box : List Notice) → posts_at core seat.slot.0 ≡ box → slot < length core.posts
    → posts_at core slot ++ [] ≡ cond (seat.slot.0 == slot) (take 1 box) [] ++ posts_at (takes notice_queues core seat (option_map framed (slice_get box 0))) slot
collects_conserved slot core seat [] e within = from (seat.slot.0 == slot)
  where
    from : (b : Bool) → posts_at core slot ++ [] ≡ cond b [] [] ++ posts_at core slot
    from true = append-nil (posts_at core slot)
    from false = append-nil (posts_at core slot)
collects_conserved slot core seat (front ∷ rest) e within =
    gone_conserved slot core seat front rest (seat.slot.0 == slot) refl e within
    ∙ ap (λ (posts : List (List Notice)). cond (seat.slot.0 == slot) (front ∷ []) [] ++ slice_index_or posts slot []) (sym (gone_posts core seat front))

collect_conserved : (slot : ℕ) (core : CoreState) (seat : Option Seat) → slot < length core.posts → Conserved slot core (does_from notice_queues core seat) [] (collected_by slot core seat)
collect_conserved slot core None within = append-nil (posts_at core slot)
collect_conserved slot core (Some seat) within = collects_conserved slot core seat (posts_at core seat.slot.0) refl within

conserved : (slot : ℕ) (core : CoreState) (step : Step) → slot < length core.posts → Conserved slot core (does core step) (posted_in slot core step) (collected slot core step)
conserved slot core (Open c w) within = append-nil (posts_at core slot)
conserved slot core (Frame c bytes) within = conserved_by slot core (does core (Frame c bytes)) (frame_quiet core c (frame_version core c bytes) (frame_action core c bytes)).1
conserved slot core (steps.Edit c) within = conserved_by slot core (does core (steps.Edit c)) (decided_posts core c (edit_step.decision core c))
conserved slot core Publish within = append-nil (posts_at core slot)
conserved slot core (Tell c revision) within = conserved_by slot core (does core (Tell c revision)) (notes_quiet (told_core core c) (connection_at core c).worker revision).1
conserved slot core (Look w revision) within = append-nil (posts_at core slot)
conserved slot core (Offer w) within = conserved_by slot core (does core (Offer w)) (puts_quiet (taken_core core w) (offer_step.next_copy core w)).1
conserved slot core Post within = post_conserved slot (posting_core core) core.pending within
conserved slot core (Drain c) within = conserved_by slot core (does core (Drain c)) (drain_quiet core (connection_at core c).seat).1
conserved slot core (Collect c) within = collect_conserved slot core (connection_at core c).seat within
conserved slot core (Close c cause) within = append-nil (posts_at core slot)
conserved slot core End within = append-nil (posts_at core slot)

-- ---- as many slots as before

cond_length : (b : Bool) (x y : CoreState) (n : ℕ) → length x.posts ≡ n → length y.posts ≡ n → length (cond b x y).posts ≡ n
cond_length true x y n hx hy = hx
cond_length false x y n hx hy = hy

post_length : (core : CoreState) (next : Option Notice) → length (post_step.puts core next).posts ≡ length core.posts
post_length core None = refl
post_length core (Some next) = cond_length (post_step.has_room core next.slot.0) _ _ (length core.posts) (length-changed core.posts next.slot.0 (λ posts. posts ++ next ∷ [])) refl

collect_length : (core : CoreState) (seat : Option Seat) → length (does_from notice_queues core seat).posts ≡ length core.posts
collect_length core seat =
    let shorter : (slot : ℕ) → length (changed_at slot (λ posts. drop 1 posts) core.posts) ≡ length core.posts = λ slot. length-changed core.posts slot (λ posts. drop 1 posts) in
    delivered (λ new. length new.posts ≡ length core.posts) notice_queues core seat refl shorter shorter

pub slots_stay : (core : CoreState) (step : Step) → length (does core step).posts ≡ length core.posts
slots_stay core (Frame c bytes) = ap length (frame_quiet core c (frame_version core c bytes) (frame_action core c bytes)).1
slots_stay core (steps.Edit c) = ap length (decided_posts core c (edit_step.decision core c))
slots_stay core (Tell c revision) = ap length (notes_quiet (told_core core c) (connection_at core c).worker revision).1
slots_stay core (Offer w) = ap length (puts_quiet (taken_core core w) (offer_step.next_copy core w)).1
slots_stay core Post = post_length (posting_core core) (post_step.next_notice core)
slots_stay core (Drain c) = ap length (drain_quiet core (connection_at core c).seat).1
slots_stay core (Collect c) = collect_length core (connection_at core c).seat
slots_stay core others = refl

conserved_all : (slot : ℕ) (core : CoreState) (run : List Step) → slot < length core.posts
    → posts_at core slot ++ gathered (posted_in slot) core run ≡ gathered (collected slot) core run ++ posts_at (ran core run) slot
conserved_all slot core [] within = append-nil (posts_at core slot)
conserved_all slot core (step ∷ run) within =
    joined (posts_at core slot) (posted_in slot core step) (gathered (posted_in slot) (does core step) run) (collected slot core step) (posts_at (does core step) slot)
    (gathered (collected slot) (does core step) run) (posts_at (ran (does core step) run) slot)
    (conserved slot core step within) (conserved_all slot (does core step) run (subst (λ (n : ℕ). slot < n) (sym (slots_stay core step)) within))

none_there : (count slot : ℕ) → let none : List Notice = [] in slice_index_or (replicate count none) slot none ≡ none
none_there zero zero = refl
none_there zero (suc slot) = refl
none_there (suc count) zero = refl
none_there (suc count) (suc slot) = none_there count slot

pub posts_are_collected : (version : Version) (opening : StateValue) (workers slot : ℕ) (run : List Step) → slot < SLOTS
    → gathered (posted_in slot) (start version opening workers) run ≡ gathered (collected slot) (start version opening workers) run ++ posts_at (ran (start version opening workers) run) slot
posts_are_collected version opening workers slot run within =
    let none : List Notice = [] in
    let begun : length (replicate SLOTS none) ≡ SLOTS = length-replicate SLOTS none in
    let first : posts_at (start version opening workers) slot ≡ [] = none_there SLOTS slot in
    ap (λ (xs : List Notice). xs ++ gathered (posted_in slot) (start version opening workers) run) (sym first)
    ∙ conserved_all slot (start version opening workers) run (subst (λ (n : ℕ). slot < n) (sym begun) within)
