-- An exercise of which each step is taken, allowed or not.
use Rattle.std.specs.Prelude.{◌≡◌, ℕ, zero, suc, List, [], ◌∷◌, ◌++◌, None, fold, length, map}
use Rattle.std.specs.List.{flat_map}
use Rattle.mum_record.specs.declared.step.Step.{Step}
use Rattle.mum_record.specs.declared.step.Step.TheVariants.{Open, Frame, Edit, Publish, Tell, Look, Offer, Post, Drain, Collect, End}
use Rattle.mum_notify.specs.declared.notice.Notice.{Notice}
use Rattle.mum_core.specs.{Core.CoreState, Core.posts_at, Core.worker_at, Step.does}
use Rattle.mum_core.specs.declared.worker.Outgoing.{Outgoing}
use Rattle.mum_exercise.specs.Acts.{aiming, channel_frame, entering, linking, listening, login_frame, self_muting, target_frame, user_frame, voice_frame}
use Rattle.mum_exercise.specs.Draws.{drawn_round, seeded}
use Rattle.mum_exercise.specs.Exercise.{CourseValue, Progress, begun, counted, decided, note, worker_of}
use Rattle.mum_exercise.specs.declared.draws.{Act.Act, TheConstants.USERS}
use Rattle.mum_exercise.specs.declared.draws.Act.TheVariants.{Talk, Enter, Link, SetSelfMute, Listen, Aim}

-- a step is taken, whatever the core says of it
abbrev pub with_step : CourseValue → Step → CourseValue
with_step course step = record { core = does course.core step; steps = course.steps ++ step ∷ []; tally = course.tally }

abbrev pub with_steps : CourseValue → List Step → CourseValue
with_steps course steps = fold with_step course steps

-- what was decided of a command is counted and sent, and each notice of it is posted and collected
abbrev pub answered : ℕ → CourseValue → CourseValue
answered c course =
    let mark = decided course.core c in
    let told = with_step (record course { tally = counted course.tally mark }) (Tell c (note course.core mark)) in
    with_steps told (flat_map (λ (notice : Notice). Post ∷ Collect notice.to.0 ∷ []) told.core.pending)

abbrev pub commanded : ℕ → List ℕ → CourseValue → CourseValue
commanded c bytes course = answered c (with_steps course (Frame c bytes ∷ Edit c ∷ Publish ∷ []))

-- a packet is looked for at what is published; each copy is offered, and then each of the audience drains one
abbrev pub spoken : ℕ → List ℕ → CourseValue → CourseValue
spoken c bytes course =
    let heard = with_step course (Frame c bytes) in
    let looked = with_step heard (Look (worker_of c) heard.core.published) in
    let copies = (worker_at looked.core (worker_of c)).copies in
    with_steps looked (map (λ (copy : Outgoing). Offer (worker_of c)) copies ++ map (λ copy. Drain copy.to.0) copies)

-- the users to i came
unfoldable pub joined : ℕ → CourseValue
joined zero = begun
joined (suc i) = commanded (suc i) (login_frame (suc i)) (with_step (joined i) (Open (suc i) (worker_of (suc i))))

-- what is done in the round of a number
abbrev pub acted : ℕ → ℕ → Act → CourseValue → CourseValue
acted number c (Talk target) course = spoken c (voice_frame target number) course
acted number c (Enter channel) course = commanded c (user_frame (entering channel.0)) course
acted number c (Link channel) course = commanded c (channel_frame (linking channel.0)) course
acted number c (SetSelfMute muted) course = commanded c (user_frame (self_muting muted)) course
acted number c (Listen channel) course = commanded c (user_frame (listening channel.0)) course
acted number c (Aim channel) course = commanded c (target_frame (aiming channel.0)) course

unfoldable pub progress : ℕ → ℕ → Progress
progress seed zero = record { course = joined USERS; draws = seeded seed }
progress seed (suc n) =
    let before = progress seed n in
    let drawn = drawn_round before.draws in
    record { course = acted (suc n) drawn.0.connection drawn.0.act before.course; draws = drawn.1 }

-- the course of an exercise of n rounds, to the end of its recording
unfoldable pub exercised_whole : ℕ → ℕ → CourseValue
exercised_whole seed rounds = with_step (progress seed rounds).course End

-- ---- the end

-- a core with nothing left to do
pub record IsDone (core : CoreState) : Type 0 where
  -- all accepted edits are published
  pub published : core.published ≡ length core.accepted
  -- no notice is still to be posted, and none waits in the posts of a slot
  pub pending : core.pending ≡ []
  pub posts : (slot : ℕ) → posts_at core slot ≡ []
  -- no worker holds a packet that it has not looked for, or has a copy that it did not offer
  pub held : (w : ℕ) → (worker_at core w).held ≡ None
  pub copies : (w : ℕ) → (worker_at core w).copies ≡ []
