-- The copies of the packets that turns of a worker route, and how they are counted.
use Rattle.mum_serve_laws.proofs.Common.{◌≡◌, ◌∙◌, ℕ, zero, suc, ◌+◌, ◌≤◌, min, not, Bool, true, false, cond, List, [], ◌∷◌, ◌++◌, length, filter, Option, Some, None, refl, ap, sym, subst, arith, length-append, All, slice_get, slice_set, FoldsTo, sum_by, All-append, All-cons, All-head, All-nil, All-tail, filter_map-append, sum_by-append, sum_by-cons, inl, inr, SessionId, VOICE_CAPACITY, Along, TurnsTo, Turn, LinkFacts, Offers, BoxFacts, VoiceFacts, Sent, Full, Offered, LAST, action_of, PortFacts, told_by_passes, Login, Rung, Answer, Comes, Lagging, NoMore, ask_at, NoteFacts, Opening, PassFacts, AskAt, RouterFacts, Delivers, Delivery, Outs, is_sent, parcel_for, was_sent, ask_of, looks_of, RoutesAt, Routed, Edit, Parts, BoxesFacts, WorkerFacts, Admits, Hears, LearnsGiven, HasOpened, IsUnused, CommonFacts, RoutesPacket, PortSteps, Shares, Turned, WorkerTurned, shares_of, Look, Moment, Told, Looked, Took, history, look_in, look_made, look_stepped, looks_in, moments_along, moments_of, moments_stepped, takes_by, told_by, GoesToHearers, copies_refused, copies_sent}
use Rattle.mum_session.specs.Machine.{session_of}
use Rattle.mum_serve_laws.proofs.Handled.{handled}

-- ---- sums

first_set : (now before old new rest : ℕ) → now ≡ new + rest → before ≡ old + rest → now + old ≡ before + new
first_set now before old new rest is was = omega (arith, is, was)

later_set : (now before first old new now_rest rest : ℕ) → now ≡ first + now_rest → before ≡ first + rest → now_rest + old ≡ rest + new → now + old ≡ before + new
later_set now before first old new now_rest rest is was so = omega (arith, is, was, so)

-- the sum after one of a list was set
sum_set : {X : Type 0} (f : X → ℕ) (xs : List X) (i : ℕ) (old new : X) → slice_get xs i ≡ Some old → sum_by f (slice_set xs i new) + f old ≡ sum_by f xs + f new
sum_set f [] zero old new there = absurd (cc there)
sum_set f [] (suc i) old new there = absurd (cc there)
sum_set {X} f (x ∷ xs) zero old new there =
    let same : x ≡ old = cc there in
    subst (λ (o : X). sum_by f (new ∷ xs) + f o ≡ sum_by f (x ∷ xs) + f new) same
    (first_set (sum_by f (new ∷ xs)) (sum_by f (x ∷ xs)) (f x) (f new) (sum_by f xs) (sum_by-cons f new xs) (sum_by-cons f x xs))
sum_set f (x ∷ xs) (suc i) old new there =
    later_set (sum_by f (x ∷ slice_set xs i new)) (sum_by f (x ∷ xs)) (f x) (f old) (f new) (sum_by f (slice_set xs i new)) (sum_by f xs)
    (sum_by-cons f x (slice_set xs i new)) (sum_by-cons f x xs) (sum_set f xs i old new there)

first_part : (before old x rest : ℕ) → before ≡ x + rest → x ≡ old → old ≤ before
first_part before old x rest is same = omega (arith, is, same)

later_part : (before old x rest : ℕ) → before ≡ x + rest → old ≤ rest → old ≤ before
later_part before old x rest is less = omega (arith, is, less)

-- one of a list is a part of its sum
part_of : {X : Type 0} (f : X → ℕ) (xs : List X) (i : ℕ) (old : X) → slice_get xs i ≡ Some old → f old ≤ sum_by f xs
part_of f [] zero old there = absurd (cc there)
part_of f [] (suc i) old there = absurd (cc there)
part_of f (x ∷ xs) zero old there =
    let same : x ≡ old = cc there in
    first_part (sum_by f (x ∷ xs)) (f old) (f x) (sum_by f xs) (sum_by-cons f x xs) (ap f same)
part_of f (x ∷ xs) (suc i) old there = later_part (sum_by f (x ∷ xs)) (f old) (f x) (sum_by f xs) (sum_by-cons f x xs) (part_of f xs i old there)

set_more : (after set before old new more : ℕ) → after ≡ set → set + old ≡ before + new → new ≡ old + more → after ≡ before + more
set_more after set before old new more is so added = omega (arith, is, so, added)

none_more : (after before none : ℕ) → after ≡ before → none ≡ 0 → after ≡ before + none
none_more after before none same nil = omega (arith, same, nil)

then_more : (after mid before first later both : ℕ) → after ≡ mid + later → mid ≡ before + first → both ≡ first + later → after ≡ before + both
then_more after mid before first later both is was so = omega (arith, is, was, so)

-- ---- sums that stop at a last value

abbrev IsUpTo : ℕ → ℕ → ℕ → Type 0
IsUpTo top count told = min count top ≡ min told top

full_set : (after set before old new told top : ℕ) → after ≡ set → set + old ≡ before + new → old ≤ before → new ≡ min (old + 1) top → IsUpTo top before told → IsUpTo top after (told + 1)
full_set after set before old new told top is so part added counted = omega (arith, is, so, part, added, counted)

same_set : (after set before old new told top : ℕ) → after ≡ set → set + old ≡ before + new → new ≡ old → IsUpTo top before told → IsUpTo top after (told + 0)
same_set after set before old new told top is so added counted = omega (arith, is, so, added, counted)

up_none : (after before told none top : ℕ) → after ≡ before → none ≡ 0 → IsUpTo top before told → IsUpTo top after (told + none)
up_none after before told none top same nil counted = omega (arith, same, nil, counted)

up_then : (after told first later both top : ℕ) → IsUpTo top after ((told + first) + later) → both ≡ first + later → IsUpTo top after (told + both)
up_then after told first later both top counted so = omega (arith, counted, so)

-- ---- counts

abbrev one : Bool → ℕ
one test = cond test 1 0

one_first : {X : Type 0} (b : Bool) (x : X) (xs : List X) → length (cond b (x ∷ xs) xs) ≡ one b + length xs
one_first true x xs = omega arith
one_first false x xs = omega arith

count_first : {X : Type 0} (test : X → Bool) (x : X) (xs : List X) → length (filter test (x ∷ xs)) ≡ one (test x) + length (filter test xs)
count_first test x xs = one_first (test x) x (filter test xs)

-- ---- the copies of one packet

abbrev offered_by : BoxFacts VoiceFacts → ℕ
offered_by pass = length pass.offered

abbrev full_by : BoxFacts VoiceFacts → ℕ
full_by pass = pass.full

abbrev was_refused : Delivery → Bool
was_refused delivery = not (was_sent delivery)

sent_one : (answer : Offered VoiceFacts) (parcel : VoiceFacts) (old new : BoxFacts VoiceFacts) → Offers VOICE_CAPACITY old parcel answer new
    → length new.offered ≡ length old.offered + one (is_sent answer)
sent_one Sent parcel old new offers =
    let is : length new.offered ≡ length (old.offered ++ parcel ∷ []) = ap (λ (p : BoxFacts VoiceFacts). length p.offered) offers in
    let more = length-append old.offered (parcel ∷ []) in
    omega (arith, is, more)
sent_one (Full back) parcel old new offers =
    let is : length new.offered ≡ length old.offered = ap (λ (p : BoxFacts VoiceFacts). length p.offered) offers.1 in
    none_more (length new.offered) (length old.offered) 0 is refl

sent_delivered : (edits : List Edit) (speaker : SessionId) (packet : Parts) (outs : Outs) (d : Delivery) (after : Outs) → Delivers edits speaker packet outs d after
    → sum_by offered_by after ≡ sum_by offered_by outs + one (was_sent d)
sent_delivered edits speaker packet outs d after delivers =
    set_more (sum_by offered_by after) (sum_by offered_by (slice_set outs d.hearer.slot.0 delivers.new)) (sum_by offered_by outs)
    (length delivers.old.offered) (length delivers.new.offered) (one (was_sent d))
    (ap (λ (os : Outs). sum_by offered_by os) delivers.others)
    (sum_set offered_by outs d.hearer.slot.0 delivers.old delivers.new delivers.box)
    (sent_one d.answer (parcel_for edits speaker packet d.hearer) delivers.old delivers.new delivers.offers)

full_answered : (answer : Offered VoiceFacts) (parcel : VoiceFacts) (old new : BoxFacts VoiceFacts) (after set before told : ℕ) → Offers VOICE_CAPACITY old parcel answer new
    → after ≡ set → set + old.full ≡ before + new.full → old.full ≤ before → IsUpTo LAST before told → IsUpTo LAST after (told + one (not (is_sent answer)))
full_answered Sent parcel old new after set before told offers is so part counted =
    same_set after set before old.full new.full told LAST is so (ap (λ (p : BoxFacts VoiceFacts). p.full) offers) counted
full_answered (Full back) parcel old new after set before told offers is so part counted =
    full_set after set before old.full new.full told LAST is so part (ap (λ (p : BoxFacts VoiceFacts). p.full) offers.1) counted

full_delivered : (edits : List Edit) (speaker : SessionId) (packet : Parts) (outs : Outs) (d : Delivery) (after : Outs) (told : ℕ) → Delivers edits speaker packet outs d after
    → IsUpTo LAST (sum_by full_by outs) told → IsUpTo LAST (sum_by full_by after) (told + one (was_refused d))
full_delivered edits speaker packet outs d after told delivers counted =
    full_answered d.answer (parcel_for edits speaker packet d.hearer) delivers.old delivers.new
    (sum_by full_by after) (sum_by full_by (slice_set outs d.hearer.slot.0 delivers.new)) (sum_by full_by outs) told delivers.offers
    (ap (λ (os : Outs). sum_by full_by os) delivers.others)
    (sum_set full_by outs d.hearer.slot.0 delivers.old delivers.new delivers.box)
    (part_of full_by outs d.hearer.slot.0 delivers.old delivers.box) counted

sent_all : (edits : List Edit) (speaker : SessionId) (packet : Parts) (ds : List Delivery) (outs after : Outs) → FoldsTo (Delivers edits speaker packet) outs ds after
    → sum_by offered_by after ≡ sum_by offered_by outs + length (filter was_sent ds)
sent_all edits speaker packet [] outs after done =
    none_more (sum_by offered_by after) (sum_by offered_by outs) 0 (ap (λ (os : Outs). sum_by offered_by os) (sym done)) refl
sent_all edits speaker packet (d ∷ ds) outs after done =
    then_more (sum_by offered_by after) (sum_by offered_by done.0) (sum_by offered_by outs) (one (was_sent d)) (length (filter was_sent ds)) (length (filter was_sent (d ∷ ds)))
    (sent_all edits speaker packet ds done.0 after done.2) (sent_delivered edits speaker packet outs d done.0 done.1) (count_first was_sent d ds)

full_all : (edits : List Edit) (speaker : SessionId) (packet : Parts) (ds : List Delivery) (outs after : Outs) (told : ℕ) → FoldsTo (Delivers edits speaker packet) outs ds after
    → IsUpTo LAST (sum_by full_by outs) told → IsUpTo LAST (sum_by full_by after) (told + length (filter was_refused ds))
full_all edits speaker packet [] outs after told done counted =
    up_none (sum_by full_by after) (sum_by full_by outs) told 0 LAST (ap (λ (os : Outs). sum_by full_by os) (sym done)) refl counted
full_all edits speaker packet (d ∷ ds) outs after told done counted =
    up_then (sum_by full_by after) told (one (was_refused d)) (length (filter was_refused ds)) (length (filter was_refused (d ∷ ds))) LAST
    (full_all edits speaker packet ds done.0 after (told + one (was_refused d)) done.2 (full_delivered edits speaker packet outs d done.0 told done.1 counted))
    (count_first was_refused d ds)

-- ---- what moments count

-- these moments lead from this router to that, and their packets go to those who hear them
record Counts (opening : Opening) (old new : RouterFacts) (moments : List Moment) : Type 0 where
  looks : length new.pass.asks ≡ length old.pass.asks + length (looks_in moments)
  sent : sum_by offered_by new.outs ≡ sum_by offered_by old.outs + sum_by copies_sent (looks_in moments)
  full : (told : ℕ) → IsUpTo LAST (sum_by full_by old.outs) told → IsUpTo LAST (sum_by full_by new.outs) (told + sum_by copies_refused (looks_in moments))
  hearers : All (GoesToHearers opening) (looks_in moments)

-- no packet, and the same boxes
no_look : (opening : Opening) (old new : RouterFacts) (moments : List Moment) → looks_in moments ≡ [] → new.pass.asks ≡ old.pass.asks → new.outs ≡ old.outs → Counts opening old new moments
no_look opening old new moments none asked same = record {
  looks = none_more (length new.pass.asks) (length old.pass.asks) (length (looks_in moments))
      (ap (λ (asks : List AskAt). length asks) asked) (ap (λ (looks : List Look). length looks) none);
  sent = none_more (sum_by offered_by new.outs) (sum_by offered_by old.outs) (sum_by copies_sent (looks_in moments))
      (ap (λ (os : Outs). sum_by offered_by os) same) (ap (λ (looks : List Look). sum_by copies_sent looks) none);
  full = λ told counted. up_none (sum_by full_by new.outs) (sum_by full_by old.outs) told (sum_by copies_refused (looks_in moments)) LAST
      (ap (λ (os : Outs). sum_by full_by os) same) (ap (λ (looks : List Look). sum_by copies_refused looks) none) counted;
  hearers = subst (λ (looks : List Look). All (GoesToHearers opening) looks) (sym none) (All-nil (GoesToHearers opening));
}

stays : (opening : Opening) (old new : RouterFacts) → new ≡ old → Counts opening old new []
stays opening old new same = no_look opening old new [] refl (ap (λ (r : RouterFacts). r.pass.asks) same) (ap (λ (r : RouterFacts). r.outs) same)

asks_learnt : (note : Option NoteFacts) (old new : RouterFacts) → LearnsGiven note old new → new.pass.asks ≡ old.pass.asks
asks_learnt None old new same = ap (λ (r : RouterFacts). r.pass.asks) same
asks_learnt (Some note) old new learns = ap (λ (p : PassFacts). p.asks) learns.0.same

learnt : (note : Option NoteFacts) (old new : RouterFacts) → LearnsGiven note old new → new.outs ≡ old.outs
learnt None old new same = ap (λ (r : RouterFacts). r.outs) same
learnt (Some note) old new learns = ap (λ (r : RouterFacts). r.outs) learns.1

-- what is learnt of logins is neither asked nor offered
asks_admitted : (roll : List Login) (old new : RouterFacts) → Admits roll old new → new.pass.asks ≡ old.pass.asks
asks_admitted roll old new admits = ap (λ (p : PassFacts). p.asks) admits.0.same

outs_admitted : (roll : List Login) (old new : RouterFacts) → Admits roll old new → new.outs ≡ old.outs
outs_admitted roll old new admits = ap (λ (r : RouterFacts). r.outs) admits.1

sum_one : {X : Type 0} (f : X → ℕ) (x : X) → sum_by f (x ∷ []) ≡ f x
sum_one f x = omega arith

saw : (opening : Opening) (connection : ℕ) (old : RouterFacts) (speaker : SessionId) (packet : Parts) (edits : List Edit) (deliveries : List Delivery) (new : RouterFacts) (routed : Routed)
    → RoutesAt opening old speaker packet edits deliveries new routed
    → Counts opening old new (Looked (record { connection = connection; speaker = speaker; packet = packet; edits = edits; deliveries = deliveries }) ∷ [])
saw opening connection old speaker packet edits deliveries new routed routes =
    let look : Look = record { connection = connection; speaker = speaker; packet = packet; edits = edits; deliveries = deliveries } in
    let asks : length new.pass.asks ≡ length (old.pass.asks ++ ask_at edits (ask_of speaker packet) ∷ []) = ap (λ (r : RouterFacts). length r.pass.asks) routes.router in record {
      looks = asks ∙ length-append old.pass.asks (ask_at edits (ask_of speaker packet) ∷ []);
      sent = sent_all edits speaker packet deliveries old.outs new.outs routes.offers
          ∙ ap (λ (n : ℕ). sum_by offered_by old.outs + n) (sym (sum_one copies_sent look));
      full = λ told counted. full_all edits speaker packet deliveries old.outs new.outs told routes.offers counted
          ∙ ap (λ (n : ℕ). min (told + n) LAST) (sym (sum_one copies_refused look));
      hearers = All-cons (GoesToHearers opening) look [] routes.each (All-nil (GoesToHearers opening));
    }

goes_on : (opening : Opening) (old mid new : RouterFacts) (ms ns : List Moment) → Counts opening old mid ms → Counts opening mid new ns → Counts opening old new (ms ++ ns)
goes_on opening old mid new ms ns first later =
    let both : looks_in (ms ++ ns) ≡ looks_in ms ++ looks_in ns = filter_map-append look_in ms ns in
    let added : (f : Look → ℕ) → sum_by f (looks_in (ms ++ ns)) ≡ sum_by f (looks_in ms) + sum_by f (looks_in ns) =
    λ f. ap (λ (looks : List Look). sum_by f looks) both ∙ sum_by-append f (looks_in ms) (looks_in ns) in record {
      looks = then_more (length new.pass.asks) (length mid.pass.asks) (length old.pass.asks) (length (looks_in ms)) (length (looks_in ns)) (length (looks_in (ms ++ ns)))
          later.looks first.looks (ap (λ (looks : List Look). length looks) both ∙ length-append (looks_in ms) (looks_in ns));
      sent = then_more (sum_by offered_by new.outs) (sum_by offered_by mid.outs) (sum_by offered_by old.outs)
          (sum_by copies_sent (looks_in ms)) (sum_by copies_sent (looks_in ns)) (sum_by copies_sent (looks_in (ms ++ ns)))
          later.sent first.sent (added copies_sent);
      full = λ told counted. up_then (sum_by full_by new.outs) told
          (sum_by copies_refused (looks_in ms)) (sum_by copies_refused (looks_in ns)) (sum_by copies_refused (looks_in (ms ++ ns))) LAST
          (later.full (told + sum_by copies_refused (looks_in ms)) (first.full told counted)) (added copies_refused);
      hearers = subst (λ (looks : List Look). All (GoesToHearers opening) looks) (sym both)
          (All-append (GoesToHearers opening) (looks_in ms) (looks_in ns) first.hearers later.hearers);
    }

two_none : (both first rest : ℕ) → both ≡ first + rest → first ≡ 0 → rest ≡ 0 → both ≡ 0
two_none both first rest is one other = omega (arith, is, one, other)

-- passes that did nothing
unused_sum : (f : BoxFacts VoiceFacts → ℕ) → ((pass : BoxFacts VoiceFacts) → IsUnused pass → f pass ≡ 0) → (outs : Outs) → All IsUnused outs → sum_by f outs ≡ 0
unused_sum f none [] unused = refl
unused_sum f none (pass ∷ outs) unused =
    two_none (sum_by f (pass ∷ outs)) (f pass) (sum_by f outs) (sum_by-cons f pass outs) (none pass (All-head IsUnused pass outs unused))
    (unused_sum f none outs (All-tail IsUnused pass outs unused))

from_none : (now before more : ℕ) → now ≡ before + more → before ≡ 0 → now ≡ more
from_none now before more is none = omega (arith, is, none)

-- ---- the turns

module _ (opening : Opening) where
  abbrev CountsBoth : CommonFacts → CommonFacts → List Moment → Type 0
  CountsBoth old new moments = Counts opening old.router new.router moments

  both_same : (old new : CommonFacts) → new ≡ old → CountsBoth old new []
  both_same old new same = stays opening old.router new.router (ap (λ (c : CommonFacts). c.router) same)

  made : (old : CommonFacts) (connection : ℕ) (speaker : SessionId) (bytes : List ℕ) (new : CommonFacts) (routes : RoutesPacket opening old connection speaker bytes new)
      → CountsBoth old new (look_made opening old connection speaker bytes new routes)
  made old connection speaker bytes new (inl drops) = stays opening old.router new.router drops.not_one.same
  made old connection speaker bytes new (inr keeps) =
      saw opening connection old.router speaker keeps.once.parts keeps.once.routes.0 keeps.once.routes.1 new.router keeps.routed keeps.once.routes.2

  module _ {L : Type 0} (facts : L → LinkFacts) where
    stepped : (boxes : BoxesFacts) (old : PortFacts L) (before : Shares) (new : PortFacts L) (after : Shares) (steps : PortSteps facts opening boxes old before new after)
        → CountsBoth before.common after.common (moments_stepped opening facts boxes old before new after steps)
    stepped boxes old before new after steps =
        goes_on opening before.common.router steps.routed.router after.common.router
        (look_stepped opening facts boxes old before new after steps) (Took (takes_by old.machine steps.turned.0) (told_by_passes new.passes) ∷ [])
        (handled opening CountsBoth both_same made old.machine.connection (session_of old.machine.stage) (action_of old.machine steps.turned.0.handled) before.common steps.routed steps.turned.1.routes)
        (no_look opening steps.routed.router after.common.router (Took (takes_by old.machine steps.turned.0) (told_by_passes new.passes) ∷ []) refl
        (asks_learnt (told_by_passes new.passes) steps.routed.router after.common.router steps.learns)
        (learnt (told_by_passes new.passes) steps.routed.router after.common.router steps.learns))

    along : (boxes : BoxesFacts) (olds : List (PortFacts L)) (before : Shares) (news : List (PortFacts L)) (after : Shares) (all : Along (PortSteps facts opening boxes) olds before news after)
        → CountsBoth before.common after.common (moments_along opening facts boxes olds before news after all)
    along boxes [] before [] after same = both_same before.common after.common (ap (λ (s : Shares). s.common) same)
    along boxes [] before (new ∷ news) after none = absurd none
    along boxes (old ∷ olds) before [] after none = absurd none
    along boxes (old ∷ olds) before (new ∷ news) after (between, step, rest) =
        goes_on opening before.common.router between.common.router after.common.router
        (moments_stepped opening facts boxes old before new between step) (moments_along opening facts boxes olds between news after rest)
        (stepped boxes old before new between step) (along boxes olds between news after rest)

    heard : (item : Option (Rung L)) (old new : WorkerFacts L) → Hears facts item old new → Counts opening old.common.router new.common.router (told_by item)
    heard None old new same = both_same old.common new.common (ap (λ (w : WorkerFacts L). w.common) same)
    heard (Some (Answer reply)) old new hears =
        no_look opening old.common.router new.common.router (Told reply ∷ []) refl
        (asks_admitted reply.roll hears.takes.noted_by new.common.router hears.takes.admits ∙ asks_learnt reply.note old.common.router hears.takes.noted_by hears.takes.learns)
        (outs_admitted reply.roll hears.takes.noted_by new.common.router hears.takes.admits ∙ learnt reply.note old.common.router hears.takes.noted_by hears.takes.learns)
    heard (Some (Comes connection link)) old new hears = stays opening old.common.router new.common.router hears.router
    heard (Some (Lagging session)) old new hears = stays opening old.common.router new.common.router hears.router
    heard (Some NoMore) old new same = both_same old.common new.common (ap (λ (w : WorkerFacts L). w.common) same)

    turn_counts : (old new : WorkerFacts L) (turn : Turn) (turned : Turned facts opening old new turn)
        → Counts opening old.common.router new.common.router (moments_of facts opening old new turn turned)
    turn_counts old new turn turned =
        goes_on opening old.common.router turned.between.common.router new.common.router
        (told_by turned.hears.item)
        (moments_along opening facts turned.between.boxes turned.between.ports (shares_of turned.between turned.heard) turned.steps.steps.stepped (shares_of new turned.worked) turned.steps.steps.along)
        (heard turned.hears.item (record old { bell = turned.hears.bell }) turned.between turned.hears.hears)
        (along turned.between.boxes turned.between.ports (shares_of turned.between turned.heard) turned.steps.steps.stepped (shares_of new turned.worked) turned.steps.steps.along)

    turns_count : (old : WorkerFacts L) (turns : List Turn) (new : WorkerFacts L) (all : TurnsTo (WorkerTurned facts opening) old turns new)
        → Counts opening old.common.router new.common.router (history facts opening old turns new all)
    turns_count old [] new same = both_same old.common new.common (ap (λ (w : WorkerFacts L). w.common) same)
    turns_count old (turn ∷ turns) new (mid, turned, rest) =
        goes_on opening old.common.router mid.common.router new.common.router
        (moments_of facts opening old mid turn turned) (history facts opening mid turns new rest)
        (turn_counts old mid turn turned) (turns_count mid turns new rest)

    -- ---- from the opening on

    pub go_to_hearers : (old : WorkerFacts L) (turns : List Turn) (new : WorkerFacts L) (all : TurnsTo (WorkerTurned facts opening) old turns new)
        → All (GoesToHearers opening) (looks_in (history facts opening old turns new all))
    go_to_hearers old turns new all = (turns_count old turns new all).hearers

    pub copies_are_sent : (opened : WorkerFacts L) (turns : List Turn) (worker : WorkerFacts L) → All IsUnused opened.common.router.outs → (all : TurnsTo (WorkerTurned facts opening) opened turns worker)
        → min (sum_by offered_by worker.common.router.outs) LAST ≡ min (sum_by copies_sent (looks_in (history facts opening opened turns worker all))) LAST
    copies_are_sent opened turns worker unused all =
        ap (λ (n : ℕ). min n LAST)
        (from_none (sum_by offered_by worker.common.router.outs) (sum_by offered_by opened.common.router.outs) (sum_by copies_sent (looks_in (history facts opening opened turns worker all)))
        (turns_count opened turns worker all).sent (unused_sum offered_by (λ pass is. ap (λ (l : List VoiceFacts). length l) is.0) opened.common.router.outs unused))

    pub copies_are_refused : (opened : WorkerFacts L) (turns : List Turn) (worker : WorkerFacts L) → All IsUnused opened.common.router.outs → (all : TurnsTo (WorkerTurned facts opening) opened turns worker)
        → min (sum_by full_by worker.common.router.outs) LAST ≡ min (sum_by copies_refused (looks_in (history facts opening opened turns worker all))) LAST
    copies_are_refused opened turns worker unused all =
        (turns_count opened turns worker all).full 0 (ap (λ (n : ℕ). min n LAST) (unused_sum full_by (λ pass is. is.1) opened.common.router.outs unused))
        ∙ ap (λ (n : ℕ). min n LAST) (from_none (0 + sum_by copies_refused (looks_in (history facts opening opened turns worker all))) 0 (sum_by copies_refused (looks_in (history facts opening opened turns worker all))) refl refl)

    pub looks_counted : (number : ℕ) (pass : PassFacts) (journal : Option ℕ) (opened : WorkerFacts L) (turns : List Turn) (worker : WorkerFacts L)
        → HasOpened number pass journal opened → pass.asks ≡ [] → (all : TurnsTo (WorkerTurned facts opening) opened turns worker)
        → looks_of worker.common.router.pass ≡ min (length (looks_in (history facts opening opened turns worker all))) LAST
    looks_counted number pass journal opened turns worker begun none all =
        ap (λ (n : ℕ). min n LAST)
        (from_none (length worker.common.router.pass.asks) (length opened.common.router.pass.asks) (length (looks_in (history facts opening opened turns worker all)))
        (turns_count opened turns worker all).looks
        (ap (λ (p : PassFacts). length p.asks) begun.pass_is ∙ ap (λ (asks : List AskAt). length asks) none))
