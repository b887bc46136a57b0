-- An exercise: a session of 16 users that is drawn from a seed, each step after what the steps before it came to.
use Rattle.std.specs.Prelude.{◌≡◌, ℕ, zero, suc, ◌-◌, ◌/◌, ◌%◌, false, List, [], ◌∷◌, ◌++◌, fold, map, Option, Some, None, is_some, codes, decimal, if◌then◌else◌}
use Rattle.std.specs.{List.flat_map, List.join_with_byte, Option.option_map, Option.option_map_or}
use Rattle.rand_pcg.specs.Lcg.{Lcg}
use Rattle.mum_base.specs.declared.reply.Mark.{Mark}
use Rattle.mum_record.specs.Words.{line_of_words}
use Rattle.mum_record.specs.declared.{head.Version.TheVariants.One, step.Step.Step}
use Rattle.mum_record.specs.declared.step.Step.TheVariants.{Open, Frame, Edit, Publish, Tell, Look, Offer, Post, Drain, Collect, End}
use Rattle.mum_notify.specs.declared.notice.Notice.{Notice}
use Rattle.mum_opening.specs.Opening.{opening}
use Rattle.mum_core.specs.{Connection.is_accepted, Step.does, Step.illegal}
use Rattle.mum_core.specs.Core.{CoreState, connection_at, start, up, worker_at}
use Rattle.mum_core.specs.declared.{machine.Totals.Totals, worker.Outgoing.Outgoing}
use Rattle.mum_exercise.specs.Acts.{aiming, channel_frame, entering, linking, listening, login_frame, self_muting, target_frame, user_frame, voice_frame}
use Rattle.mum_exercise.specs.Draws.{drawn_round, seeded}
use Rattle.mum_exercise.specs.declared.draws.{Act.Act, Round.Round, TheConstants.USERS}
use Rattle.mum_exercise.specs.declared.{exercise.TheConstants.WORKERS, tally.Tally.Tally}
use Rattle.mum_exercise.specs.declared.draws.Act.TheVariants.{Talk, Enter, Link, SetSelfMute, Listen, Aim}
use Rattle.mum_base.specs.declared.reply.Mark.TheVariants as marks

-- channel i is named c and i, and is under the whole part of (i - 1) / 2
abbrev pub channel_text : ℕ → List ℕ
channel_text i =
    codes "{\"id\":" ++ decimal i ++ codes ",\"parent\":" ++ decimal ((i - 1) / 2) ++ codes ",\"name\":\"c" ++ decimal i ++ codes "\"}"

-- the configuration: channels 1 to 7, separated by commas
unfoldable pub document : List ℕ
document = codes "{\"channels\":[" ++ join_with_byte 44 (map channel_text (1 ∷ 2 ∷ 3 ∷ 4 ∷ 5 ∷ 6 ∷ 7 ∷ [])) ++ codes "]}"

-- ---- the course of an exercise

pub record CourseValue : Type 0 where
  -- the core after the steps
  pub core : CoreState
  -- the steps that were taken, the first of them first
  pub steps : List Step
  -- what was decided of the commands
  pub tally : Tally

-- two courses that differ in nothing but the steps that are kept of them
pub record IsAlike (one other : CourseValue) : Type 0 where
  pub core : one.core ≡ other.core
  pub tally : one.tally ≡ other.tally

abbrev pub begun : CourseValue
begun = record {
  core = start One (opening None document) WORKERS;
  steps = [];
  tally = record { accepted = 0; lacks = 0; refused = 0; ignored = 0 };
}

-- a step is taken where it is allowed, so the steps are always those of a recording
abbrev pub taken : CourseValue → Step → CourseValue
taken course step =
    if is_some (illegal course.core step) then course
    else record { core = does course.core step; steps = course.steps ++ step ∷ []; tally = course.tally }

abbrev pub all_taken : CourseValue → List Step → CourseValue
all_taken course steps = fold taken course steps

-- connections are dealt out to the workers in turn
abbrev pub worker_of : ℕ → ℕ
worker_of c = (c - 1) % WORKERS

-- ---- a command

-- what was decided of the command of a connection, and is not sent yet
abbrev pub decided : CoreState → ℕ → Option Mark
decided core c = option_map (λ reply. reply.mark) (connection_at core c).decided

abbrev pub counted : Tally → Option Mark → Tally
counted tally (Some (marks.Accepted revision)) = record tally { accepted = up tally.accepted }
counted tally (Some (marks.Lacks perm channel)) = record tally { lacks = up tally.lacks }
counted tally (Some (marks.Refused kind)) = record tally { refused = up tally.refused }
counted tally (Some (marks.Ignored why)) = record tally { ignored = up tally.ignored }
counted tally others = tally

-- an accepted command is sent with the published revision, any other without one
abbrev pub note : CoreState → Option Mark → Option ℕ
note core mark = if option_map_or is_accepted mark false then Some core.published else None

-- a notice is posted, and its recipient collects it: user i has session i, since they come one after the other
abbrev pub brings : Notice → List Step
brings notice = Post ∷ Collect notice.to.0 ∷ []

abbrev pub informed : CourseValue → CourseValue
informed course = all_taken course (flat_map brings course.core.pending)

-- what was decided of a command is counted and sent, and the notices of it go to all
abbrev pub answered : ℕ → CourseValue → CourseValue
answered c course =
    let mark = decided course.core c in
    informed (taken (record course { tally = counted course.tally mark }) (Tell c (note course.core mark)))

-- a command is brought, decided, published and answered
abbrev pub commanded : ℕ → List ℕ → CourseValue → CourseValue
commanded c bytes course = answered c (all_taken course (Frame c bytes ∷ Edit c ∷ Publish ∷ []))

-- ---- a packet

-- each copy that a worker has is offered, and then each of the audience drains one
abbrev pub delivered : ℕ → CourseValue → CourseValue
delivered w course =
    let copies = (worker_at course.core w).copies in
    all_taken course (map (λ (copy : Outgoing). Offer w) copies ++ map (λ copy. Drain copy.to.0) copies)

-- it is brought, its worker looks at what is published, and the copies are delivered
abbrev pub spoken : ℕ → List ℕ → CourseValue → CourseValue
spoken c bytes course =
    let heard = taken course (Frame c bytes) in
    delivered (worker_of c) (taken heard (Look (worker_of c) heard.core.published))

-- ---- the whole

-- user i comes
abbrev pub joins : ℕ → CourseValue → CourseValue
joins i course = commanded i (login_frame i) (taken course (Open i (worker_of i)))

-- the users to i came
unfoldable pub joined : ℕ → CourseValue
joined zero = begun
joined (suc i) = joins (suc i) (joined i)

-- what is done in the round of a number
abbrev pub acted : ℕ → ℕ → Act → CourseValue → CourseValue
acted number c (Talk target) course = spoken c (voice_frame target number) course
acted number c (Enter channel) course = commanded c (user_frame (entering channel.0)) course
acted number c (Link channel) course = commanded c (channel_frame (linking channel.0)) course
acted number c (SetSelfMute muted) course = commanded c (user_frame (self_muting muted)) course
acted number c (Listen channel) course = commanded c (user_frame (listening channel.0)) course
acted number c (Aim channel) course = commanded c (target_frame (aiming channel.0)) course

abbrev pub played : ℕ → Round → CourseValue → CourseValue
played number round course = acted number round.connection round.act course

-- the course after n rounds, and the generator from which the next is drawn
pub record Progress : Type 0 where
  pub course : CourseValue
  pub draws : Lcg

unfoldable pub progress : ℕ → ℕ → Progress
progress seed zero = record { course = joined USERS; draws = seeded seed }
progress seed (suc n) =
    let before = progress seed n in
    let drawn = drawn_round before.draws in
    record { course = played (suc n) drawn.0 before.course; draws = drawn.1 }

-- the course of an exercise of n rounds, to the end of its recording
unfoldable pub exercised : ℕ → ℕ → CourseValue
exercised seed rounds = taken (progress seed rounds).course End

-- ---- what the program writes of it

abbrev pub numbers_words : ℕ → ℕ → Tally → Totals → List (List ℕ)
numbers_words seed rounds tally totals =
    codes "exercise" ∷ codes "seed" ∷ decimal seed ∷ codes "steps" ∷ decimal rounds
    ∷ codes "accepted" ∷ decimal tally.accepted ∷ codes "lacks" ∷ decimal tally.lacks
    ∷ codes "refused" ∷ decimal tally.refused ∷ codes "ignored" ∷ decimal tally.ignored
    ∷ codes "looks" ∷ decimal totals.looks ∷ codes "copies" ∷ decimal totals.copies
    ∷ codes "full" ∷ decimal totals.full ∷ codes "stale" ∷ decimal totals.stale ∷ []

abbrev pub account_words : ℕ → ℕ → CourseValue → List (List ℕ)
account_words seed rounds course = numbers_words seed rounds course.tally course.core.totals

abbrev pub account : ℕ → ℕ → List ℕ
account seed rounds = line_of_words (account_words seed rounds (exercised seed rounds)) ++ 10 ∷ []
