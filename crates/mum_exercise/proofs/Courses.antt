-- The steps of a course are a run from its opening, and lead to its core.
use Rattle.mum_exercise.proofs.Common.{◌≡◌, ℕ, zero, suc, List, [], ◌∷◌, ◌++◌, Option, Some, None, refl, ap, ◌∙◌, map, if◌then◌else◌, is_some, flat_map, Step, Drain, Edit, End, Frame, Look, Offer, Open, Publish, Tell, One, CoreState, start, worker_at, IsRun, ran, does, illegal, Outgoing, aiming, channel_frame, entering, linking, listening, login_frame, self_muting, target_frame, user_frame, voice_frame, drawn_round, CourseValue, Progress, acted, all_taken, answered, brings, commanded, counted, decided, delivered, document, exercised, joined, note, progress, spoken, taken, worker_of, opening, Act, Talk, Enter, Link, SetSelfMute, Listen, Aim, Round, USERS, WORKERS, Tally}

-- a course that began at this core
pub record IsCourse (first : CoreState) (course : CourseValue) : Type 0 where
  pub allowed : IsRun first course.steps
  pub led : ran first course.steps ≡ course.core

run_more : (core : CoreState) (steps : List Step) (step : Step) → IsRun core steps → illegal (ran core steps) step ≡ None → IsRun core (steps ++ step ∷ [])
run_more core [] step run good = (good, tt)
run_more core (s ∷ steps) step run good = (run.0, run_more (does core s) steps step run.1 good)

ran_more : (core : CoreState) (steps : List Step) (step : Step) → ran core (steps ++ step ∷ []) ≡ does (ran core steps) step
ran_more core [] step = refl
ran_more core (s ∷ steps) step = ran_more (does core s) steps step

taken_by : (first : CoreState) (course : CourseValue) (step : Step) (found : Option (ℕ × ℕ)) → illegal course.core step ≡ found → IsCourse first course
    → IsCourse first (if is_some found then course else record { core = does course.core step; steps = course.steps ++ step ∷ []; tally = course.tally })
taken_by first course step (Some numbers) is on = on
taken_by first course step None is on = record {
  allowed = run_more first course.steps step on.allowed (ap (λ (c : CoreState). illegal c step) on.led ∙ is);
  led = ran_more first course.steps step ∙ ap (λ (c : CoreState). does c step) on.led;
}

-- a step more
pub course_goes : (first : CoreState) (course : CourseValue) (step : Step) → IsCourse first course → IsCourse first (taken course step)
course_goes first course step on = taken_by first course step (illegal course.core step) refl on

-- steps more
pub course_goes_on : (first : CoreState) (steps : List Step) (course : CourseValue) → IsCourse first course → IsCourse first (all_taken course steps)
course_goes_on first [] course on = on
course_goes_on first (step ∷ steps) course on = course_goes_on first steps (taken course step) (course_goes first course step on)

-- what is counted of a course changes nothing of its steps
count_goes : (first : CoreState) (course : CourseValue) (tally : Tally) → IsCourse first course → IsCourse first (record course { tally = tally })
count_goes first course tally on = record { allowed = on.allowed; led = on.led }

answer_goes : (first : CoreState) (c : ℕ) (course : CourseValue) → IsCourse first course → IsCourse first (answered c course)
answer_goes first c course on =
    let mark = decided course.core c in
    let counts : CourseValue = record course { tally = counted course.tally mark } in
    let told : CourseValue = taken counts (Tell c (note course.core mark)) in
    course_goes_on first (flat_map brings told.core.pending) told (course_goes first counts (Tell c (note course.core mark)) (count_goes first course (counted course.tally mark) on))

command_goes : (first : CoreState) (c : ℕ) (bytes : List ℕ) (course : CourseValue) → IsCourse first course → IsCourse first (commanded c bytes course)
command_goes first c bytes course on =
    let steps : List Step = Frame c bytes ∷ Edit c ∷ Publish ∷ [] in
    answer_goes first c (all_taken course steps) (course_goes_on first steps course on)

delivery_goes : (first : CoreState) (w : ℕ) (course : CourseValue) → IsCourse first course → IsCourse first (delivered w course)
delivery_goes first w course on =
    let copies : List Outgoing = (worker_at course.core w).copies in
    course_goes_on first (map (λ (copy : Outgoing). Offer w) copies ++ map (λ (copy : Outgoing). Drain copy.to.0) copies) course on

speech_goes : (first : CoreState) (c : ℕ) (bytes : List ℕ) (course : CourseValue) → IsCourse first course → IsCourse first (spoken c bytes course)
speech_goes first c bytes course on =
    let heard : CourseValue = taken course (Frame c bytes) in
    let look : Step = Look (worker_of c) heard.core.published in
    delivery_goes first (worker_of c) (taken heard look) (course_goes first heard look (course_goes first course (Frame c bytes) on))

abbrev pub opens : CoreState
opens = start One (opening None document) WORKERS

joined_goes : (i : ℕ) → IsCourse opens (joined i)
unfolding joined
joined_goes zero = record { allowed = tt; led = refl }
joined_goes (suc i) =
    let step : Step = Open (suc i) (worker_of (suc i)) in
    command_goes opens (suc i) (login_frame (suc i)) (taken (joined i) step) (course_goes opens (joined i) step (joined_goes i))

act_goes : (first : CoreState) (number c : ℕ) (act : Act) (course : CourseValue) → IsCourse first course → IsCourse first (acted number c act course)
act_goes first number c (Talk target) course on = speech_goes first c (voice_frame target number) course on
act_goes first number c (Enter channel) course on = command_goes first c (user_frame (entering channel.0)) course on
act_goes first number c (Link channel) course on = command_goes first c (channel_frame (linking channel.0)) course on
act_goes first number c (SetSelfMute muted) course on = command_goes first c (user_frame (self_muting muted)) course on
act_goes first number c (Listen channel) course on = command_goes first c (user_frame (listening channel.0)) course on
act_goes first number c (Aim channel) course on = command_goes first c (target_frame (aiming channel.0)) course on

progress_goes : (seed n : ℕ) → IsCourse opens (progress seed n).course
unfolding progress
progress_goes seed zero = joined_goes USERS
progress_goes seed (suc n) =
    let before : Progress = progress seed n in
    let round : Round = (drawn_round before.draws).0 in
    act_goes opens (suc n) round.connection round.act before.course (progress_goes seed n)

pub exercise_goes : (seed rounds : ℕ) → IsCourse opens (exercised seed rounds)
unfolding exercised
exercise_goes seed rounds = course_goes opens (progress seed rounds).course End (progress_goes seed rounds)
