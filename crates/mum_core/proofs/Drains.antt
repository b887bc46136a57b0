-- Each copy that was sent was delivered to a connection, or was dropped, or waits.
use Rattle.mum_core.proofs.Common.{◌≡◌, ℕ, zero, suc, ◌+◌, ◌-◌, ◌≤◌, ◌<◌, ◌^◌, min, Bool, true, false, cond, List, [], ◌∷◌, ◌++◌, length, take, drop, get_or, Option, Some, None, refl, sym, subst, inl, inr, ap, ◌∙◌, arith, length-append, filter, sum_by, slice_get, slice_index_or, replicate, All, AllByRecursion, Contains, option_map, option_map_or, and_from, Slot, User, Edit, Verdict, Accepted, Lacks, Refused, Rejected, Answer, Ignored, applied, fits, FitsWhereAccepted, Notice, IsAddressee, notices, each_has_its_session_lem, Asked, lagging, next_command, session_of, verdict, length-replicate, sum_by-set, slice_get_within, get_or_from_slice_get, slice_get-get_or, IsProper, StateValue, Seat, Parcel, SLOTS, Outgoing, Version, Step, Open, Frame, Publish, Tell, Look, Offer, Post, Drain, Collect, Close, End, CoreState, start, connection_at, current, worker_at, outbox_at, posts_at, at_posts, at_session, state_at, IsRun, gathered, noticed, offered, own_front, own_notice, posted, ran, told_notice, wired, changed_at, does, frame_action, frame_version, does_from, is_for, takes, with_stale, carried, copy_queues, framed, notice_queues}
use Rattle.mum_core.proofs.{Copies.AllCopies, Copies.AllLooked, Copies.Still, Copies.boxes_step, Copies.copies_step, Copies.decided_still, Copies.each_looked, Copies.frame_still, Copies.idle_copies, Copies.looks_before, Copies.notes_still, Copies.rest_core, Fitted.IsLawful, Fitted.current_proper, Fitted.lawful_all, Fitted.lawful_start, Fitted.lawful_step, Fitted.state_proper, Present.each_in_server, Present.slot_below, RunLaws.posting_core, RunLaws.taken_core, RunLaws.told_core, Lower.keeps_proper, Lower.verdict_fits, Notices.decided_posts, Notices.drain_quiet, Notices.frame_quiet, Notices.notes_quiet, Notices.puts_quiet, Notices.slots_stay, Notices.waits}
use Rattle.mum_record.specs.declared.step.Step.TheVariants as steps
use Rattle.mum_core.specs.steps.Edit as edit_step
use Rattle.mum_core.specs.steps.Offer as offer_step
use Rattle.mum_core.specs.steps.Post as post_step

-- the copies that wait, and the notices
abbrev waiting : CoreState → ℕ
waiting core = sum_by length core.outboxes

abbrev posted_there : CoreState → ℕ
posted_there core = sum_by length core.posts

-- what is delivered, dropped and waits is as much more as what was sent
abbrev Moves : CoreState → CoreState → ℕ → Type 0
Moves old new told =
    (new.totals.copies ≤ old.totals.copies + 1) × (new.totals.stale ≤ old.totals.stale + 1)
    × (told + new.totals.stale + waiting new + old.totals.copies ≡ new.totals.copies + old.totals.stale + waiting old)

moves_none : (old new : CoreState) → Still old new → Moves old new 0
moves_none old new still =
    let copies : new.totals.copies ≡ old.totals.copies = ap (λ t. t.copies) still.0 in
    let stale : new.totals.stale ≡ old.totals.stale = ap (λ t. t.stale) still.0 in
    let boxes : waiting new ≡ waiting old = ap (sum_by length) still.1 in
    (omega (arith, copies), omega (arith, stale), omega (arith, copies, stale, boxes))

-- ---- one outbox

sum-found : {A : Type 0} (boxes : List (List A)) (i : ℕ) (change : List A → List A) (box : List A) → slice_get boxes i ≡ Some box
    → sum_by length (changed_at i change boxes) + length box ≡ sum_by length boxes + length (change box)
sum-found {A = A} boxes i change box e =
    let here : get_or boxes i box ≡ box = get_or_from_slice_get boxes i box box e in
    let sums = sum_by-set (λ (one : List A). length one) boxes i (change box) box (slice_get_within boxes i box e) in
    rw e (rw here at sums)

-- an outbox that has a copy is there
box_there : {A : Type 0} (boxes : List (List A)) (i : ℕ) (front : A) (rest : List A) → slice_index_or boxes i [] ≡ front ∷ rest → slice_get boxes i ≡ Some (front ∷ rest)
box_there [] i front rest e = cc
box_there {A = A} (box ∷ boxes) zero front rest e = ap (λ (b : List A). Some b) e
box_there (box ∷ boxes) (suc i) front rest e = box_there boxes i front rest e

cond_moves : (b : Bool) (old x y : CoreState) (told : ℕ) → Moves old x told → Moves old y told → Moves old (cond b x y) told
cond_moves true old x y told hx hy = hx
cond_moves false old x y told hx hy = hy

puts_moves : (core : CoreState) (next : Option Outgoing) → ((copy : Outgoing) → next ≡ Some copy → copy.slot.0 < length core.outboxes) → core.totals.copies < 2 ^ 64 - 1
    → Moves core (offer_step.puts core next) 0
puts_moves core None within room = (omega arith, omega arith, omega arith)
puts_moves core (Some next) within room =
    let parcel : Parcel = record { to = next.to; bytes = next.bytes } in
    let box : List Parcel = outbox_at core next.slot.0 in
    let there : slice_get core.outboxes next.slot.0 ≡ Some box = slice_get-get_or core.outboxes next.slot.0 [] (within next refl) in
    let sum = sum-found core.outboxes next.slot.0 (λ parcels. parcels ++ parcel ∷ []) box there in
    let longer : length (box ++ parcel ∷ []) ≡ length box + 1 = simp length-append (omega arith) in
    let balance : min (core.totals.copies + 1) (2 ^ 64 - 1) ≡ core.totals.copies + 1 = omega (arith, room) in
    cond_moves (offer_step.has_room core next.slot.0) core _ _ 0
    (omega (arith, balance), omega arith, omega (arith, balance, sum, longer))
    (omega arith, omega arith, omega arith)

by_own : (core : CoreState) (seat : Seat) (front : Parcel) (rest : List Parcel) (b : Bool)
    → sum_by length (changed_at seat.slot.0 (λ parcels. drop 1 parcels) core.outboxes) + length (front ∷ rest) ≡ sum_by length core.outboxes + length rest
    → min (core.totals.stale + 1) (2 ^ 64 - 1) ≡ core.totals.stale + 1
    → Moves core (cond b (rest_core core seat) (with_stale (rest_core core seat))) (length (cond b (front ∷ []) []))
by_own core seat front rest true sum more = (omega arith, omega arith, omega (arith, sum))
by_own core seat front rest false sum more = (omega arith, omega (arith, more), omega (arith, sum, more))

drained_moves : (core : CoreState) (seat : Seat) → core.totals.stale < 2 ^ 64 - 1 → (box : List Parcel) → outbox_at core seat.slot.0 ≡ box
    → Moves core (takes copy_queues core seat (option_map carried (slice_get box 0))) (length (filter (λ (parcel : Parcel). is_for parcel.to seat) (take 1 box)))
drained_moves core seat room [] e = (omega arith, omega arith, omega arith)
drained_moves core seat room (front ∷ rest) e =
    by_own core seat front rest (is_for front.to seat) (sum-found core.outboxes seat.slot.0 (λ parcels. drop 1 parcels) (front ∷ rest) (box_there core.outboxes seat.slot.0 front rest e))
    (omega (arith, room))

drain_moves : (core : CoreState) (seat : Option Seat) → core.totals.stale < 2 ^ 64 - 1 → Moves core (does_from copy_queues core seat) (length (own_front core seat))
drain_moves core None room = (omega arith, omega arith, omega arith)
drain_moves core (Some seat) room = drained_moves core seat room (outbox_at core seat.slot.0) refl

-- ---- notices

-- what is delivered, dropped and waits is as much more as what was sent and posted
abbrev MovesAll : CoreState → CoreState → ℕ → ℕ → Type 0
MovesAll old new told put =
    (new.totals.copies ≤ old.totals.copies + 1) × (new.totals.stale ≤ old.totals.stale + 1)
    × (told + new.totals.stale + (waiting new + posted_there new) + old.totals.copies ≡ new.totals.copies + put + old.totals.stale + (waiting old + posted_there old))

with_posts : (old new : CoreState) (told : ℕ) → Moves old new told → new.posts ≡ old.posts → MovesAll old new (told + 0) 0
with_posts old new told moved same =
    let posts : posted_there new ≡ posted_there old = ap (sum_by length) same in
    (moved.0, moved.1, omega (arith, moved.2, posts))

cond_all : (b : Bool) (old x y : CoreState) (told put : ℕ) → MovesAll old x told put → MovesAll old y told put → MovesAll old (cond b x y) told put
cond_all true old x y told put hx hy = hx
cond_all false old x y told put hx hy = hy

abbrev InSlot : Notice → Type 0
InSlot notice = notice.slot.0 < SLOTS

post_moves : (core : CoreState) (pending : List Notice) → length core.posts ≡ SLOTS → AllByRecursion InSlot pending
    → MovesAll core (post_step.puts core (slice_get pending 0)) 0 (length (filter (λ (notice : Notice). post_step.has_room core notice.slot.0) (take 1 pending)))
post_moves core [] slots all = (omega arith, omega arith, omega arith)
post_moves core (next ∷ pending) slots all = from (post_step.has_room core next.slot.0)
  where
    from : (b : Bool) → MovesAll core (cond b (at_posts next.slot.0 (λ posts. posts ++ next ∷ []) core) (at_session next.to lagging core)) 0 (length (cond b (next ∷ []) []))
    from false = (omega arith, omega arith, omega arith)
    from true =
        let box : List Notice = posts_at core next.slot.0 in
        let low = all.0 in
        let there : slice_get core.posts next.slot.0 ≡ Some box = slice_get-get_or core.posts next.slot.0 [] (omega (arith, low, slots)) in
        let sum = sum-found core.posts next.slot.0 (λ posts. posts ++ next ∷ []) box there in
        let longer : length (box ++ next ∷ []) ≡ length box + 1 = simp length-append (omega arith) in
        (omega arith, omega arith, omega (arith, sum, longer))

gone_moves : (core : CoreState) (seat : Seat) (front : Notice) (rest : List Notice) (b : Bool)
    → sum_by length (changed_at seat.slot.0 (λ posts. drop 1 posts) core.posts) + length (front ∷ rest) ≡ sum_by length core.posts + length rest
    → min (core.totals.stale + 1) (2 ^ 64 - 1) ≡ core.totals.stale + 1
    → MovesAll core (cond b (at_posts seat.slot.0 (λ posts. drop 1 posts) core) (with_stale (at_posts seat.slot.0 (λ posts. drop 1 posts) core)))
    (length (cond b (front ∷ []) [])) 0
gone_moves core seat front rest true sum more = (omega arith, omega arith, omega (arith, sum))
gone_moves core seat front rest false sum more = (omega arith, omega (arith, more), omega (arith, sum, more))

collected_moves : (core : CoreState) (seat : Seat) → core.totals.stale < 2 ^ 64 - 1 → (box : List Notice) → posts_at core seat.slot.0 ≡ box
    → MovesAll core (takes notice_queues core seat (option_map framed (slice_get box 0))) (length (filter (λ (notice : Notice). is_for notice.to seat) (take 1 box))) 0
collected_moves core seat room [] e = (omega arith, omega arith, omega arith)
collected_moves core seat room (front ∷ rest) e =
    gone_moves core seat front rest (is_for front.to seat) (sum-found core.posts seat.slot.0 (λ posts. drop 1 posts) (front ∷ rest) (box_there core.posts seat.slot.0 front rest e))
    (omega (arith, room))

collect_moves : (core : CoreState) (seat : Option Seat) → core.totals.stale < 2 ^ 64 - 1 → MovesAll core (does_from notice_queues core seat) (length (own_notice core seat)) 0
collect_moves core None room = (omega arith, omega arith, omega arith)
collect_moves core (Some seat) room = collected_moves core seat room (posts_at core seat.slot.0) refl

-- ---- each notice is for a slot of the server

all_at : {A : Type 0} (P : A → Type 0) (xs : List A) (k : ℕ) (d : A) → AllByRecursion P xs → k < length xs → P (slice_index_or xs k d)
all_at P [] k d all within = absurd (omega arith)
all_at P (x ∷ xs) zero d all within = all.0
all_at P (x ∷ xs) (suc k) d all within = all_at P xs k d all.1 (omega (arith, within))

one_by_one : {A : Type 0} (P : A → Type 0) (xs : List A) → All P xs → AllByRecursion P xs
one_by_one P [] all = tt
one_by_one P (x ∷ xs) all = (all 0 x (omega arith), one_by_one P xs (λ k d within. all (suc k) d (omega (arith, within))))

user_below : (state : StateValue) (user : User) → IsProper state → Contains state.roster.sessions user → user.slot.0 < SLOTS
user_below state user proper (k, within, is) =
    subst (λ (one : User). one.slot.0 < SLOTS) is (all_at (λ (one : User). one.slot.0 < SLOTS) state.roster.sessions k user (each_in_server state proper) within)

addressee_below : (before : StateValue) (edit : Edit) (after : StateValue) (user : User) → IsProper before → IsProper after → IsAddressee before edit after user → user.slot.0 < SLOTS
addressee_below before edit after user first last (inl there) = user_below after user last there
addressee_below before edit after user first last (inr kicked) = user_below before user first kicked.2

notices_in_slots : (before : StateValue) (edit : Edit) (after : StateValue) → IsProper before → IsProper after → AllByRecursion InSlot (notices before edit after)
notices_in_slots before edit after first last =
    one_by_one InSlot (notices before edit after) (λ k d within.
    let told = each_has_its_session_lem before edit after k d within in
    let low = addressee_below before edit after told.0 first last told.1 in
    subst (λ (slot : Slot). slot.0 < SLOTS) (sym told.2.1) low)

of_verdict : (state : StateValue) (decided : Verdict) → IsProper state → FitsWhereAccepted state decided → AllByRecursion InSlot (edit_step.noticed state decided)
of_verdict state (Accepted edit) proper fit = notices_in_slots state edit (applied state edit) proper (keeps_proper state (edit ∷ []) proper (and_from (fits state edit) true fit refl))
of_verdict state (Lacks perm channel) proper fit = tt
of_verdict state (Refused kind) proper fit = tt
of_verdict state (Rejected kind) proper fit = tt
of_verdict state (Answer frame) proper fit = tt
of_verdict state (Ignored why) proper fit = tt

edit_in_slots : (core : CoreState) (c : ℕ) (next : Option Asked) → IsLawful core
    → AllByRecursion InSlot (option_map_or (edit_step.noticed (current core)) (option_map (verdict (current core) (session_of (connection_at core c))) next) [])
edit_in_slots core c None lawful = tt
edit_in_slots core c (Some command) lawful =
    let proper = current_proper core lawful in
    of_verdict (current core) (verdict (current core) (session_of (connection_at core c)) command) proper (verdict_fits (current core) (session_of (connection_at core c)) command proper)

noticed_in_slots : (core : CoreState) (step : Step) → IsLawful core → AllByRecursion InSlot (noticed core step)
noticed_in_slots core (steps.Edit c) lawful = edit_in_slots core c (next_command (connection_at core c)) lawful
noticed_in_slots core others lawful = tt

all_joined : (xs ys : List Notice) → AllByRecursion InSlot xs → AllByRecursion InSlot ys → AllByRecursion InSlot (xs ++ ys)
all_joined [] ys all others = others
all_joined (x ∷ xs) ys all others = (all.0, all_joined xs ys all.1 others)

all_behind : (xs ys : List Notice) → AllByRecursion InSlot (xs ++ ys) → AllByRecursion InSlot ys
all_behind [] ys all = all
all_behind (x ∷ xs) ys all = all_behind xs ys all.1

pending_step : (core : CoreState) (step : Step) → IsLawful core → AllByRecursion InSlot core.pending → AllByRecursion InSlot (does core step).pending
pending_step core step lawful all =
    all_behind (offered core step) (does core step).pending
    (subst (AllByRecursion InSlot) (waits core step) (all_joined core.pending (noticed core step) all (noticed_in_slots core step lawful)))

-- ---- a step

-- each copy in hand is for a slot of the server
abbrev IsOfServer : Outgoing → Type 0
IsOfServer copy = copy.slot.0 < SLOTS

-- and each slot has an outbox
abbrev Fine : CoreState → Type 0
Fine core = (length core.outboxes ≡ SLOTS) × AllCopies IsOfServer core × (length core.posts ≡ SLOTS) × AllByRecursion InSlot core.pending

first_within : (copies : List Outgoing) (copy : Outgoing) → AllByRecursion IsOfServer copies → slice_get copies 0 ≡ Some copy → copy.slot.0 < SLOTS
first_within [] copy all e = cc
first_within (one ∷ copies) copy all e = let same : one ≡ copy = cc in rw same at all.0

moves : (core : CoreState) (step : Step) → Fine core → core.totals.copies < 2 ^ 64 - 1 → core.totals.stale < 2 ^ 64 - 1 → MovesAll core (does core step) (length (wired core step) + length (told_notice core step)) (length (posted core step))
moves core (Open c w) fine room free =
    with_posts core (does core (Open c w)) 0 (moves_none core (does core (Open c w)) (refl, refl)) refl
moves core (Frame c bytes) fine room free =
    with_posts core (does core (Frame c bytes)) 0 (moves_none core (does core (Frame c bytes)) (frame_still core c (frame_version core c bytes) (frame_action core c bytes))) (frame_quiet core c (frame_version core c bytes) (frame_action core c bytes)).1
moves core (steps.Edit c) fine room free =
    with_posts core (does core (steps.Edit c)) 0 (moves_none core (does core (steps.Edit c)) (decided_still core c (edit_step.decision core c))) (decided_posts core c (edit_step.decision core c))
moves core Publish fine room free =
    with_posts core (does core Publish) 0 (moves_none core (does core Publish) (refl, refl)) refl
moves core (Tell c revision) fine room free =
    with_posts core (does core (Tell c revision)) 0 (moves_none core (does core (Tell c revision)) (notes_still (told_core core c) (connection_at core c).worker revision)) (notes_quiet (told_core core c) (connection_at core c).worker revision).1
moves core (Look w revision) fine room free =
    with_posts core (does core (Look w revision)) 0 ((omega arith, omega arith, omega arith)) refl
moves core (Offer w) fine room free =
    with_posts core (does core (Offer w)) 0 (puts_moves (taken_core core w) (offer_step.next_copy core w)
    (λ copy e. let below = first_within (worker_at core w).copies copy (fine.1 w) e in let all = fine.0 in omega (arith, below, all)) room) (puts_quiet (taken_core core w) (offer_step.next_copy core w)).1
moves core (Drain c) fine room free =
    with_posts core (does core (Drain c)) (length (own_front core (connection_at core c).seat)) (drain_moves core (connection_at core c).seat free) (drain_quiet core (connection_at core c).seat).1
moves core Post fine room free =
    post_moves (posting_core core) core.pending fine.2 fine.3
moves core (Collect c) fine room free =
    let moved = collect_moves core (connection_at core c).seat free in
    (moved.0, moved.1, omega (arith, moved.2))
moves core (Close c cause) fine room free =
    with_posts core (does core (Close c cause)) 0 (moves_none core (does core (Close c cause)) (refl, refl)) refl
moves core End fine room free =
    with_posts core (does core End) 0 (moves_none core (does core End) (refl, refl)) refl

-- ---- all steps

drained_from : (core : CoreState) (run : List Step) → ((revision : ℕ) → AllLooked IsOfServer (state_at (ran core run) revision)) → IsLawful core → Fine core
    → core.totals.copies + length run < 2 ^ 64 - 1 → core.totals.stale + length run < 2 ^ 64 - 1
    → (length (gathered wired core run) + length (gathered told_notice core run)) + (ran core run).totals.stale + (waiting (ran core run) + posted_there (ran core run)) + core.totals.copies
    ≡ (ran core run).totals.copies + length (gathered posted core run) + core.totals.stale + (waiting core + posted_there core)
drained_from core [] looks lawful fine room free = omega arith
drained_from core (step ∷ run) looks lawful fine room free =
    let first = moves core step fine (omega (arith, room)) (omega (arith, free)) in
    let copies = first.0 in
    let stale = first.1 in
    let balance = first.2 in
    let later = drained_from (does core step) run looks (lawful_step core step lawful)
    (boxes_step core step ∙ fine.0, copies_step IsOfServer core step (looks_before IsOfServer core (step ∷ run) looks) fine.1, slots_stay core step ∙ fine.2, pending_step core step lawful fine.3)
    (omega (arith, copies, room)) (omega (arith, stale, free)) in
    let told : length (gathered wired core (step ∷ run)) ≡ length (wired core step) + length (gathered wired (does core step) run) = length-append (wired core step) (gathered wired (does core step) run) in
    let noted : length (gathered told_notice core (step ∷ run)) ≡ length (told_notice core step) + length (gathered told_notice (does core step) run) = length-append (told_notice core step) (gathered told_notice (does core step) run) in
    let put : length (gathered posted core (step ∷ run)) ≡ length (posted core step) + length (gathered posted (does core step) run) = length-append (posted core step) (gathered posted (does core step) run) in
    omega (arith, balance, later, told, noted, put)

none_wait : (A : Type 0) (slots : ℕ) → let none : List A = [] in sum_by length (replicate slots none) ≡ 0
none_wait A zero = refl
none_wait A (suc n) = none_wait A n

pub copies_are_drained : (version : Version) (opening : StateValue) (workers : ℕ) (run : List Step) → IsProper opening → IsRun (start version opening workers) run → length run < 2 ^ 64 - 1
    → length (gathered wired (start version opening workers) run) + length (gathered told_notice (start version opening workers) run) + (ran (start version opening workers) run).totals.stale
    + sum_by length (ran (start version opening workers) run).outboxes + sum_by length (ran (start version opening workers) run).posts
    ≡ (ran (start version opening workers) run).totals.copies + length (gathered posted (start version opening workers) run)
copies_are_drained version opening workers run proper is room =
    let core : CoreState = ran (start version opening workers) run in
    let begun = lawful_start version opening workers proper in
    let lawful = lawful_all (start version opening workers) run begun in
    let looks : (revision : ℕ) → AllLooked IsOfServer (state_at core revision) =
    λ revision. each_looked IsOfServer (state_at core revision) (λ held one user found. slot_below (state_at core revision) one.0 user (state_proper core revision lawful) found) in
    let none : List Parcel = [] in
    let empty : List Notice = [] in
    let boxes : length (replicate SLOTS none) ≡ SLOTS = length-replicate SLOTS none in
    let slots : length (replicate SLOTS empty) ≡ SLOTS = length-replicate SLOTS empty in
    let first : sum_by length (replicate SLOTS none) ≡ 0 = none_wait Parcel SLOTS in
    let second : sum_by length (replicate SLOTS empty) ≡ 0 = none_wait Notice SLOTS in
    let all = drained_from (start version opening workers) run looks begun (boxes, idle_copies IsOfServer workers, slots, tt) (omega (arith, room)) (omega (arith, room)) in
    omega (arith, first, second, all)
