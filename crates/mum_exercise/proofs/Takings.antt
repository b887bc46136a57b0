-- What is taken of a course for each of several sessions.
use Rattle.mum_exercise.proofs.Common.{◌≡◌, ℕ, zero, suc, ◌+◌, ◌<◌, List, [], ◌∷◌, ◌++◌, length, get_or, take, Option, Some, None, refl, sym, ap, ◌∙◌, add-one, if◌then◌else◌, is_some, map, replicate, flat_map, take-suc, append-nil, flat_map-append, flat_map-cons, fold-append, SessionId, Notice, Step, Collect, Drain, Offer, Post, CoreState, worker_at, does, illegal, Outgoing, CourseValue, all_taken, brings, delivered, informed, taken}

-- ---- one step

allowed_by : (course after : CourseValue) (found : Option (ℕ × ℕ)) → found ≡ None → after ≡ (if is_some found then course else after)
allowed_by course after None is = refl
allowed_by course after (Some numbers) is = absurd cc

refused_by : (course after : CourseValue) (found : Option (ℕ × ℕ)) (numbers : ℕ × ℕ) → found ≡ Some numbers → course ≡ (if is_some found then course else after)
refused_by course after None numbers is = absurd cc
refused_by course after (Some found) numbers is = refl

-- the course after a step that is allowed
pub is_taken : (course : CourseValue) (step : Step) (core : CoreState) → illegal course.core step ≡ None → core ≡ does course.core step
    → record { core = core; steps = course.steps ++ step ∷ []; tally = course.tally } ≡ taken course step
is_taken course step core none is =
    ap (λ (c : CoreState). record { core = c; steps = course.steps ++ step ∷ []; tally = course.tally }) is
    ∙ allowed_by course (record { core = does course.core step; steps = course.steps ++ step ∷ []; tally = course.tally }) (illegal course.core step) none

-- one that is not allowed leaves it
pub is_left : (course : CourseValue) (step : Step) (core : CoreState) (numbers : ℕ × ℕ) → illegal course.core step ≡ Some numbers → core ≡ course.core
    → record { core = core; steps = course.steps; tally = course.tally } ≡ taken course step
is_left course step core numbers stands is =
    ap (λ (c : CoreState). record { core = c; steps = course.steps; tally = course.tally }) is
    ∙ refused_by course (record { core = does course.core step; steps = course.steps ++ step ∷ []; tally = course.tally }) (illegal course.core step) numbers stands

-- ---- steps for each of several sessions

each_and : (f : SessionId → List Step) (xs : List SessionId) (i : ℕ) (d : SessionId) → i < length xs → flat_map f (take (suc i) xs) ≡ flat_map f (take i xs) ++ f (get_or xs i d)
each_and f xs i d lt =
    ap (flat_map f) (take-suc xs i d lt) ∙ flat_map-append f (take i xs) (get_or xs i d ∷ [])
    ∙ ap (λ (more : List Step). flat_map f (take i xs) ++ more) (flat_map-cons f (get_or xs i d) [] ∙ append-nil (f (get_or xs i d)))

-- one session more
pub each_more : (f : SessionId → List Step) (first course : CourseValue) (xs : List SessionId) (i : ℕ) (d : SessionId) → i < length xs
    → course ≡ all_taken first (flat_map f (take i xs)) → all_taken course (f (get_or xs i d)) ≡ all_taken first (flat_map f (take (i + 1) xs))
each_more f first course xs i d lt is =
    ap (λ (c : CourseValue). all_taken c (f (get_or xs i d))) is
    ∙ sym (fold-append taken first (flat_map f (take i xs)) (f (get_or xs i d)))
    ∙ ap (all_taken first) (sym (each_and f xs i d lt) ∙ ap (λ (n : ℕ). flat_map f (take n xs)) (sym (add-one i)))

-- the same step once more
repeat_suc : (k : ℕ) (first : CourseValue) (step : Step) → taken (all_taken first (replicate k step)) step ≡ all_taken first (replicate (suc k) step)
repeat_suc zero first step = refl
repeat_suc (suc k) first step = repeat_suc k (taken first step) step

pub repeat_more : (k : ℕ) (first course : CourseValue) (step : Step) → course ≡ all_taken first (replicate k step) → taken course step ≡ all_taken first (replicate (k + 1) step)
repeat_more k first course step is =
    ap (λ (c : CourseValue). taken c step) is ∙ repeat_suc k first step ∙ ap (λ (n : ℕ). all_taken first (replicate n step)) (sym (add-one k))

-- ---- notices

brings_each : (notices : List Notice) → flat_map (λ (s : SessionId). Post ∷ Collect s.0 ∷ []) (map (λ (n : Notice). n.to) notices) ≡ flat_map brings notices
brings_each [] = refl
brings_each (n ∷ notices) = ap (λ (more : List Step). Post ∷ Collect n.to.0 ∷ more) (brings_each notices)

pub informs : (course last : CourseValue) (sessions : List SessionId) → sessions ≡ map (λ (n : Notice). n.to) course.core.pending
    → last ≡ all_taken course (flat_map (λ (s : SessionId). Post ∷ Collect s.0 ∷ []) sessions) → last ≡ informed course
informs course last sessions are is =
    is ∙ ap (λ (them : List SessionId). all_taken course (flat_map (λ (s : SessionId). Post ∷ Collect s.0 ∷ []) them)) are ∙ ap (all_taken course) (brings_each course.core.pending)

-- ---- copies

offers_each : (step : Step) (copies : List Outgoing) → replicate (length (map (λ (copy : Outgoing). copy.to) copies)) step ≡ map (λ (copy : Outgoing). step) copies
offers_each step [] = refl
offers_each step (copy ∷ copies) = ap (λ (more : List Step). step ∷ more) (offers_each step copies)

drains_each : (copies : List Outgoing) → flat_map (λ (s : SessionId). Drain s.0 ∷ []) (map (λ (copy : Outgoing). copy.to) copies) ≡ map (λ (copy : Outgoing). Drain copy.to.0) copies
drains_each [] = refl
drains_each (copy ∷ copies) = ap (λ (more : List Step). Drain copy.to.0 ∷ more) (drains_each copies)

delivers_to : (w : ℕ) (course : CourseValue) (copies : List Outgoing)
    → all_taken (all_taken course (replicate (length (map (λ (copy : Outgoing). copy.to) copies)) (Offer w))) (flat_map (λ (s : SessionId). Drain s.0 ∷ []) (map (λ (copy : Outgoing). copy.to) copies))
    ≡ all_taken course (map (λ (copy : Outgoing). Offer w) copies ++ map (λ (copy : Outgoing). Drain copy.to.0) copies)
delivers_to w course copies =
    ap (λ (offers : List Step). all_taken (all_taken course offers) (flat_map (λ (s : SessionId). Drain s.0 ∷ []) (map (λ (copy : Outgoing). copy.to) copies))) (offers_each (Offer w) copies)
    ∙ ap (λ (drains : List Step). all_taken (all_taken course (map (λ (copy : Outgoing). Offer w) copies)) drains) (drains_each copies)
    ∙ sym (fold-append taken course (map (λ (copy : Outgoing). Offer w) copies) (map (λ (copy : Outgoing). Drain copy.to.0) copies))

pub delivers : (w : ℕ) (course last : CourseValue) (sessions : List SessionId) → sessions ≡ map (λ (copy : Outgoing). copy.to) (worker_at course.core w).copies
    → last ≡ all_taken (all_taken course (replicate (length sessions) (Offer w))) (flat_map (λ (s : SessionId). Drain s.0 ∷ []) sessions) → last ≡ delivered w course
delivers w course last sessions are is =
    is
    ∙ ap (λ (them : List SessionId). all_taken (all_taken course (replicate (length them) (Offer w))) (flat_map (λ (s : SessionId). Drain s.0 ∷ []) them)) are
    ∙ delivers_to w course (worker_at course.core w).copies

-- first the offers, then the drains
pub drains_after : (w : ℕ) (course offered last : CourseValue) (sessions : List SessionId) → offered ≡ all_taken course (replicate (length sessions) (Offer w))
    → last ≡ all_taken offered (flat_map (λ (s : SessionId). Drain s.0 ∷ []) sessions)
    → last ≡ all_taken (all_taken course (replicate (length sessions) (Offer w))) (flat_map (λ (s : SessionId). Drain s.0 ∷ []) sessions)
drains_after w course offered last sessions offers drains = drains ∙ ap (λ (c : CourseValue). all_taken c (flat_map (λ (s : SessionId). Drain s.0 ∷ []) sessions)) offers
