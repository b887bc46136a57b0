-- The last notice of a session is of an edit that kicked it.
use Rattle.mum_step_laws.proofs.Common.{◌≡◌, ◌∙◌, ℕ, ◌-◌, ◌<◌, Bool, true, false, cond, true≢false, List, [], ◌∷◌, ◌++◌, Option, Some, None, refl, sym, ap, subst, ◌==◌, ◌&&◌, ◌||◌, filter, slice_get, AllByRecursion, list_any, option_map, option_map_or, option_or, and_parts, eq-eqb, eqb-true, or_left, or_right, recursion_from_All, SessionId, SLOTS, Kicked, Text, text_of_notice, text_of_parcel, notices_are_posted, posts_are_collected, accepted_grows, placed, AreSettled, seat_on, seat_placed, settled_start, settled_step, seat_given, session_of, CoreState, connection_at, current, posts_at, start, collected, gathered, noticed, offered, posted_in, ran, does, Connection, Seat, has_cause, kicks, was_kicked, last_only_for_kicked_lem, kicked, Notice, PostFacts, is_last, Version, Step, applied, StateValue, Edit, Kick, Verdict, Accepted, Lacks, Refused, Rejected, Answer, Ignored}
use Rattle.mum_core.specs.steps.Edit as edit_step
use Rattle.mum_core.specs.steps.Post as post_step
use Rattle.mum_record.specs.declared.step.Step.TheVariants as steps

-- ---- lists

front_all : {A : Type 0} (P : A → Type 0) (xs ys : List A) → AllByRecursion P (xs ++ ys) → AllByRecursion P xs
front_all P [] ys all = tt
front_all P (x ∷ xs) ys all = (all.0, front_all P xs ys all.1)

back_all : {A : Type 0} (P : A → Type 0) (xs ys : List A) → AllByRecursion P (xs ++ ys) → AllByRecursion P ys
back_all P [] ys all = all
back_all P (x ∷ xs) ys all = back_all P xs ys all.1

both_all : {A : Type 0} (P : A → Type 0) (xs ys : List A) → AllByRecursion P xs → AllByRecursion P ys → AllByRecursion P (xs ++ ys)
both_all P [] ys all rest = rest
both_all P (x ∷ xs) ys all rest = (all.0, both_all P xs ys all.1 rest)

filter_all : {A : Type 0} (P : A → Type 0) (test : A → Bool) (xs : List A) → AllByRecursion P xs → AllByRecursion P (filter test xs)
filter_all P test [] all = tt
filter_all P test (x ∷ xs) all = at (test x) (filter_all P test xs all.1)
  where
    at : (b : Bool) → AllByRecursion P (filter test xs) → AllByRecursion P (cond b (x ∷ filter test xs) (filter test xs))
    at true rest = (all.0, rest)
    at false rest = rest

any_more : (test : Edit → Bool) (xs ys : List Edit) → list_any test xs ≡ true → list_any test (xs ++ ys) ≡ true
any_more test [] ys some = absurd (true≢false (sym some))
any_more test (x ∷ xs) ys some = at (test x) refl (any_more test xs ys)
  where
    at : (b : Bool) → test x ≡ b → (list_any test xs ≡ true → list_any test (xs ++ ys) ≡ true) → (test x || list_any test (xs ++ ys)) ≡ true
    at true is more = or_left (test x) (list_any test (xs ++ ys)) is
    at false is more = or_right (test x) (list_any test (xs ++ ys)) (more (ap (λ (b : Bool). b || list_any test xs) (sym is) ∙ some))

any_last : (test : Edit → Bool) (xs : List Edit) (x : Edit) → test x ≡ true → list_any test (xs ++ x ∷ []) ≡ true
any_last test [] x is = or_left (test x) false is
any_last test (y ∷ xs) x is = or_right (test y) (list_any test (xs ++ x ∷ [])) (any_last test xs x is)

-- ---- what was kicked

-- the last notice of a session that was kicked by these edits
abbrev IsOfKick : List Edit → Notice → Type 0
IsOfKick edits notice = notice.last ≡ true → list_any (kicks notice.to) edits ≡ true

kicks_own : (edit : Edit) (session to : SessionId) → kicked edit ≡ Some session → to.0 ≡ session.0 → kicks to edit ≡ true
kicks_own (Kick gone actor reason ban) session to is same =
    eq-eqb gone.0 to.0 (ap (λ (o : Option SessionId). option_map_or (λ (s : SessionId). s.0) o gone.0) is ∙ sym same)
kicks_own others session to is same = absurd (cc is)

more_kicked : (core : CoreState) (more : List Step) (session : SessionId) → was_kicked core session ≡ true → was_kicked (ran core more) session ≡ true
more_kicked core more session was =
    let grown = accepted_grows core more in
    ap (λ (edits : List Edit). list_any (kicks session) edits) grown.1 ∙ any_more (kicks session) core.accepted grown.0 was

-- those of an edit that is accepted
noticed_kicked : (edits : List Edit) (edit : Edit) (notices : List Notice)
    → AllByRecursion (λ notice. notice.last ≡ true → (session : SessionId) × (kicked edit ≡ Some session) × (notice.to.0 ≡ session.0)) notices
    → AllByRecursion (IsOfKick (edits ++ edit ∷ [])) notices
noticed_kicked edits edit [] all = tt
noticed_kicked edits edit (notice ∷ notices) all = (
  λ last. let of = all.0 last in any_last (kicks notice.to) edits edit (kicks_own edit of.0 notice.to of.1 of.2),
  noticed_kicked edits edit notices all.1,
)

verdict_kicked : (core : CoreState) (c : ℕ) (decided : Option Verdict) → AllByRecursion (IsOfKick (option_map_or (edit_step.decides core c) decided core).accepted) (option_map_or (edit_step.noticed (current core)) decided [])
verdict_kicked core c None = tt
verdict_kicked core c (Some (Accepted edit)) =
    noticed_kicked core.accepted edit (edit_step.noticed (current core) (Accepted edit))
    (recursion_from_All _ (edit_step.noticed (current core) (Accepted edit)) (last_only_for_kicked_lem (current core) edit (applied (current core) edit)))
verdict_kicked core c (Some (Lacks perm channel)) = tt
verdict_kicked core c (Some (Refused kind)) = tt
verdict_kicked core c (Some (Rejected kind)) = tt
verdict_kicked core c (Some (Answer frame)) = tt
verdict_kicked core c (Some (Ignored why)) = tt

step_kicked : (core : CoreState) (step : Step) → AllByRecursion (IsOfKick (does core step).accepted) (noticed core step)
step_kicked core (steps.Edit c) = verdict_kicked core c (edit_step.decision core c)
step_kicked core others = tt

grown_all : (edits more : List Edit) (notices : List Notice) → AllByRecursion (IsOfKick edits) notices → AllByRecursion (IsOfKick (edits ++ more)) notices
grown_all edits more [] all = tt
grown_all edits more (notice ∷ notices) all = (λ last. any_more (kicks notice.to) edits more (all.0 last), grown_all edits more notices all.1)

noticed_all : (core : CoreState) (run : List Step) → AllByRecursion (IsOfKick (ran core run).accepted) (gathered noticed core run)
noticed_all core [] = tt
noticed_all core (step ∷ run) =
    let grown = accepted_grows (does core step) run in
    both_all (IsOfKick (ran core (step ∷ run)).accepted) (noticed core step) (gathered noticed (does core step) run)
    (subst (λ (edits : List Edit). AllByRecursion (IsOfKick edits) (noticed core step)) (sym grown.1) (grown_all (does core step).accepted grown.0 (noticed core step) (step_kicked core step)))
    (noticed_all (does core step) run)

posted_all : (P : Notice → Type 0) (slot : ℕ) (core : CoreState) (run : List Step) → AllByRecursion P (gathered offered core run) → AllByRecursion P (gathered (posted_in slot) core run)
posted_all P slot core [] all = tt
posted_all P slot core (step ∷ run) all =
    both_all P (posted_in slot core step) (gathered (posted_in slot) (does core step) run)
    (filter_all P (λ notice. notice.slot.0 == slot) (filter (λ notice. post_step.has_room core notice.slot.0) (offered core step))
    (filter_all P (λ notice. post_step.has_room core notice.slot.0) (offered core step) (front_all P (offered core step) (gathered offered (does core step) run) all)))
    (posted_all P slot (does core step) run (back_all P (offered core step) (gathered offered (does core step) run) all))

-- what waits in the posts of a slot
waiting_kicked : (version : Version) (opening : StateValue) (workers slot : ℕ) (run : List Step) → slot < SLOTS
    → AllByRecursion (IsOfKick (ran (start version opening workers) run).accepted) (posts_at (ran (start version opening workers) run) slot)
waiting_kicked version opening workers slot run within =
    let core = start version opening workers in
    let P = IsOfKick (ran core run).accepted in
    let sent : AllByRecursion P (gathered offered core run) =
    front_all P (gathered offered core run) (ran core run).pending (subst (AllByRecursion P) (notices_are_posted version opening workers run) (noticed_all core run)) in
    back_all P (gathered (collected slot) core run) (posts_at (ran core run) slot)
    (subst (AllByRecursion P) (posts_are_collected version opening workers slot run within) (posted_all P slot core run sent))

-- ---- the session of a seat

settled_all : (core : CoreState) (run : List Step) → AreSettled core → AreSettled (ran core run)
settled_all core [] settled = settled
settled_all core (step ∷ run) settled = settled_all (does core step) run (settled_step core step settled)

own_session : (given seat : Option Seat) (session : SessionId) (own : Seat) → given ≡ None → seat ≡ Some own → option_map (λ (s : Seat). s.session) (option_or given seat) ≡ Some own.session
own_session None seat session own none is = ap (option_map (λ (s : Seat). s.session)) is
own_session (Some other) seat session own none is = absurd (cc none)

-- whoever is settled in a seat has its session
seated_session : (core : CoreState) (c : ℕ) (seat : Seat) → AreSettled core → (connection_at core c).seat ≡ Some seat → session_of (connection_at core c) ≡ Some seat.session
seated_session core c seat settled is =
    let first = seat_placed core c seat is in
    let there = placed core c first in
    own_session (seat_given (connection_at core c).decided) (connection_at core c).seat seat.session seat
    (ap (λ (x : Connection). seat_given x.decided) there ∙ settled (c - 1) seat (sym (ap (λ (x : Connection). x.seat) there) ∙ is)) is

-- ---- the cause

-- the first that waits, as the parcel that it is in a box
first_last : (edits : List Edit) (session : SessionId) (posts : List Notice) (parcel : Option PostFacts) → AllByRecursion (IsOfKick edits) posts
    → option_map text_of_notice (slice_get posts 0) ≡ option_map text_of_parcel parcel → is_last (Some session) parcel ≡ true → list_any (kicks session) edits ≡ true
first_last edits session posts None all is last = absurd (true≢false (sym last))
first_last edits session [] (Some parcel) all is last = absurd (cc is)
first_last edits session (notice ∷ posts) (Some parcel) all is last =
    let one : text_of_notice notice ≡ text_of_parcel parcel = cc is in
    let both = and_parts (notice.to.0 == session.0) notice.last (ap (λ (t : Text). (t.to.0 == session.0) && t.last) one ∙ last) in
    let same : notice.to ≡ session = ap (λ (n : ℕ). record { 0 = n }) (eqb-true notice.to.0 session.0 both.0) in
    subst (λ (s : SessionId). list_any (kicks s) edits ≡ true) same (all.0 both.1)

pub kicked_cause : (version : Version) (opening : StateValue) (workers slot : ℕ) (run more : List Step) (c : ℕ) (seat : Seat) (parcel : Option PostFacts)
    → (connection_at (ran (start version opening workers) run) c).seat ≡ Some seat → seat.slot.0 ≡ slot → slot < SLOTS
    → option_map text_of_notice (slice_get (posts_at (ran (start version opening workers) run) slot) 0) ≡ option_map text_of_parcel parcel → is_last (Some seat.session) parcel ≡ true
    → has_cause (ran (ran (start version opening workers) run) more) c Kicked ≡ true
kicked_cause version opening workers slot run more c seat parcel is same within oldest last =
    let core = ran (start version opening workers) run in
    let settled = settled_all (start version opening workers) run (settled_start version opening workers) in
    let later = settled_all core more settled in
    let session = seated_session (ran core more) c seat later (seat_on core more c seat settled is) in
    let was = first_last core.accepted seat.session (posts_at core slot) parcel (waiting_kicked version opening workers slot run within) oldest last in
    ap (λ (o : Option SessionId). option_map_or (was_kicked (ran core more)) o false) session ∙ more_kicked core more seat.session was
