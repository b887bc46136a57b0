-- Each step of an exercise is allowed where it comes, so none is left out.
use Rattle.mum_laws.proofs.Common.{◌≡◌, ℕ, zero, suc, ◌+◌, ◌-◌, ◌%◌, ◌^◌, ◌≤◌, ◌<◌, Bool, true, false, cond, List, [], ◌∷◌, ◌++◌, length, Option, Some, None, refl, sym, ap, subst, ◌∙◌, arith, inl, inr, length-append, ◌==◌, is_some, nat_lt, not, replicate, slice_index_or, if◌then◌else◌, digits, scan_numeral, flat_map, option_map, option_or, chars, is_utf8, encode, cases_eq, eq-eqb, lt-ltb, length-replicate, mod_below, value, lex, punctuate, content, after_number, word, Lcg, pcg32, number_of, SessionId, Slot, SLOTS, channel_edits, config_of, next_number, next_slot, RosterState, empty_roster, User, Verdict, Accepted, StateValue, Each, each_so, Notice, mark, verdict, Asked, Command, Step, End, Frame, Look, Open, Tell, Connection, Seat, fresh, is_rejected, CoreState, connection_at, current, worker_at, IsRun, ran, seat_of, does, illegal, idle, SeatsNext, verdict_seats, conn, aiming, channel_frame, entering, linking, listening, login_frame, self_muting, target_frame, user_frame, user_name, voice_frame, drawn_act, drawn_below, drawn_round, seeded, CourseValue, Progress, all_taken, begun, brings, counted, decided, document, exercised, note, taken, worker_of, opening, Act, Talk, Enter, Link, SetSelfMute, Listen, Aim, USERS, WORKERS, IsDone, acted, commanded, exercised_whole, joined, progress, with_step, with_steps}
use Rattle.mum_config.specs.Document.{edits_of}
use Rattle.mum_laws.specs.Exercises.{spoken}
use Rattle.mum_laws.proofs.{Coming.Ready, Coming.comes, Coming.login_accepted, Coming.name_short, Coming.name_text, Coming.ready_next, Finding.idle_at, Rejecting.unrejected, Requesting.AllSeated, Requesting.Commanded, Requesting.asker, Requesting.commanded_so, Requesting.command_steps, Requesting.state_after, Requesting.verdict_at, Resting.here, Resting.AllIn, Resting.AreSeated, Resting.HasSeat, Resting.IsFree, Resting.Rest, Resting.Rests, Resting.passed, Resting.seat_as, Resting.seats_of, Seating.seats_given, Seating.seats_kept, Speaking.deliveries, Speaking.looking, Speaking.speaks_so, Wording.Asks, Wording.aim_asks, Wording.asked_login, Wording.come_asks, Wording.enter_asks, Wording.link_asks, Wording.listen_asks, Wording.mute_asks}
use Rattle.mum_exercise.specs.Exercise as exercise

-- ---- steps that are allowed are taken

same_step : (course : CourseValue) (step : Step) → illegal course.core step ≡ None → taken course step ≡ with_step course step
same_step course step legal = ap (λ (found : Option (ℕ × ℕ)). if is_some found then course else with_step course step) legal

same_steps : (run : List Step) (course : CourseValue) → IsRun course.core run → all_taken course run ≡ with_steps course run
same_steps [] course is = refl
same_steps (step ∷ run) course is = ap (λ (one : CourseValue). all_taken one run) (same_step course step is.0) ∙ same_steps run (with_step course step) is.1

-- the core after steps
core_behind : (run : List Step) (course : CourseValue) → (with_steps course run).core ≡ ran course.core run
core_behind [] course = refl
core_behind (step ∷ run) course = core_behind run (with_step course step)

-- ---- a command

abbrev telling : CoreState → ℕ → Step
telling core c = Tell c (note core (decided core c))

-- what a command leaves, and with it the same course as where no step is tested
record Goes (n i : ℕ) (before : CoreState) (v : Verdict) (one all : CourseValue) : Type 0 where
  same : one ≡ all
  rest : Rest n all.core
  own : seats_of all.core i ≡ option_or (seat_of v) (seats_of before i)
  other : (j : ℕ) → (j ≡ i → ⊥) → seats_of all.core j ≡ seats_of before j
  state : current all.core ≡ state_after (current before) v

goes : (n i : ℕ) (course : CourseValue) (bytes : List ℕ) (v : Verdict) → Commanded n i course.core bytes v
    → Goes n i course.core v (exercise.commanded (i + 1) bytes course) (commanded (i + 1) bytes course)
goes n i course bytes v commands =
    let c : ℕ = i + 1 in
    let three : CourseValue = with_steps course (command_steps c bytes) in
    let counts : CourseValue = record three { tally = counted three.tally (decided three.core c) } in
    let told : CourseValue = with_step counts (telling three.core c) in
    let behind = core_behind (flat_map brings told.core.pending) told in
    let answers = commands.answers in
    record {
      same =
          ap (exercise.answered c) (same_steps (command_steps c bytes) course commands.run)
          ∙ ap (λ (one : CourseValue). all_taken one (flat_map brings one.core.pending)) (same_step counts (telling three.core c) answers.told)
          ∙ same_steps (flat_map brings told.core.pending) told answers.brought;
      rest = subst (Rest n) (sym behind) answers.rest;
      own = ap (λ (core : CoreState). seats_of core i) behind ∙ answers.own;
      other = λ j apart. ap (λ (core : CoreState). seats_of core j) behind ∙ answers.other j apart;
      state = ap (λ (core : CoreState). current core) behind ∙ answers.state;
    }

-- ---- between rounds

-- a course that is the one of which no step is tested, with nothing underway and all of n users there
record Whole (n : ℕ) (one all : CourseValue) : Type 0 where
  same : one ≡ all
  rest : Rest n all.core
  seats : AllIn n (seats_of all.core)

no_seat : (state : StateValue) (session : SessionId) (v : Verdict) → SeatsNext state (Some session) v → seat_of v ≡ None
no_seat state session v (inl none) = none
no_seat state session v (inr next) = absurd (apart session next.0)
  where
    apart : (one : SessionId) → ◌≡◌ {A = Option SessionId} (Some one) None → ⊥
    apart one e = cc

command_whole : (n i : ℕ) (course : CourseValue) (bytes : List ℕ) → Rest n course.core → AllIn n (seats_of course.core) → i < n → Asks course.core i bytes
    → Whole n (exercise.commanded (i + 1) bytes course) (commanded (i + 1) bytes course)
command_whole n i course bytes rest all within asks =
    let core : CoreState = course.core in
    let what : Asked = asks.0.what in
    let own = all i within in
    let session : SessionId = record { 0 = i + 1 } in
    let known : asker core i ≡ Some session = ap (λ (seat : Option Seat). option_map (λ (seat : Seat). seat.session) seat) own.1 in
    let v : Verdict = verdict_at core i what in
    let is : v ≡ verdict (current core) (Some session) what = ap (λ (s : Option SessionId). verdict (current core) s what) known in
    let none : seat_of v ≡ None = ap seat_of is ∙ no_seat (current core) session (verdict (current core) (Some session) what) (verdict_seats (current core) (Some session) what) in
    let accepted : is_rejected (mark (length core.accepted + 1) v) ≡ false =
    ap (λ (decided : Verdict). is_rejected (mark (length core.accepted + 1) decided)) is ∙ unrejected (length core.accepted + 1) (current core) session what in
    let done = goes n i course bytes v (commanded_so n core i bytes asks.0 rest within asks.1 accepted (seats_kept n i core v none rest.seated)) in
    record {
      same = done.same;
      rest = done.rest;
      seats = λ j low. elim (cases_eq j i) [
        | inl here ↦
            let seat = all j low in
            (seat.0, ap (seats_of (commanded (i + 1) bytes course).core) here ∙ done.own ∙ ap (λ (o : Option Seat). option_or o (seats_of core i)) none ∙ sym (ap (seats_of core) here) ∙ seat.1)
        | inr apart ↦ let seat = all j low in (seat.0, done.other j apart ∙ seat.1)
      ];
    }

speech_whole : (n i target number : ℕ) (course : CourseValue) → Rest n course.core → AllIn n (seats_of course.core) → i < n → target < 2 → number < 2 ^ 64
    → Whole n (exercise.spoken (i + 1) (voice_frame target number) course) (spoken (i + 1) (voice_frame target number) course)
speech_whole n i target number course rest all within low fits =
    let c : ℕ = i + 1 in
    let bytes : List ℕ = voice_frame target number in
    let own = all i within in
    let speaks = speaks_so n course.core i target number (seat_as (record { 0 = i + 1 }) own.0) rest within own.1 low fits in
    let done = speaks.spoken in
    let w : ℕ = worker_of c in
    let heard : CourseValue = with_step course (Frame c bytes) in
    let looked : CourseValue = with_step heard (looking course.core c bytes) in
    let behind = core_behind (deliveries w (worker_at looked.core w).copies) looked in
    record {
      same =
          ap (λ (one : CourseValue). exercise.delivered w (taken one (Look w one.core.published))) (same_step course (Frame c bytes) speaks.heard)
          ∙ ap (exercise.delivered w) (same_step heard (looking course.core c bytes) done.looked)
          ∙ same_steps (deliveries w (worker_at looked.core w).copies) looked done.delivered;
      rest = subst (Rest n) (sym behind) done.rest;
      seats = subst (λ (xs : List Connection). AllIn n (λ (j : ℕ). (slice_index_or xs j (fresh 0)).seat))
          (sym (ap (λ (core : CoreState). core.connections) behind ∙ done.seats)) all;
    }

-- ---- the users come

old_place : (xs : List Connection) (w j : ℕ) → (j ≡ length xs → ⊥) → slice_index_or (xs ++ fresh w ∷ []) j (fresh 0) ≡ slice_index_or xs j (fresh 0)
old_place [] w zero other = absurd (other (omega arith))
old_place [] w (suc j) other = refl
old_place (x ∷ xs) w zero other = refl
old_place (x ∷ xs) w (suc j) other = old_place xs w j (λ same. other (omega (arith, same)))

new_place : (xs : List Connection) (w j : ℕ) → j ≡ length xs → slice_index_or (xs ++ fresh w ∷ []) j (fresh 0) ≡ fresh w
new_place [] w zero is = refl
new_place [] w (suc j) is = absurd (omega (arith, is))
new_place (x ∷ xs) w zero is = absurd (omega (arith, is))
new_place (x ∷ xs) w (suc j) is = new_place xs w j (omega (arith, is))

-- a connection that begins at the worker whose turn it is
open_allowed : (core : CoreState) (i : ℕ) → Rest i core → illegal core (Open (i + 1) (worker_of (i + 1))) ≡ None
open_allowed core i rest =
    let many = rest.many in
    let workers = rest.workers in
    let below : worker_of (i + 1) < WORKERS = mod_below (i + 1 - 1) WORKERS (omega arith) in
    let next : (i + 1 == length core.connections + 1) ≡ true = eq-eqb (i + 1) (length core.connections + 1) (omega (arith, many)) in
    let there : nat_lt (worker_of (i + 1)) (length core.workers) ≡ true = lt-ltb (worker_of (i + 1)) (length core.workers) (omega (arith, below, workers)) in
    passed (not (i + 1 == length core.connections + 1)) _ _ (ap not next) (passed (not (nat_lt (worker_of (i + 1)) (length core.workers))) _ _ (ap not there) refl)

-- what an open leaves
record Opened (i : ℕ) (core new : CoreState) : Type 0 where
  rest : Rest (i + 1) new
  fresh_one : conn new i ≡ fresh (worker_of (i + 1))
  other : (j : ℕ) → (j ≡ i → ⊥) → seats_of new j ≡ seats_of core j

fresh_rests : (x : Connection) (w : ℕ) → x ≡ fresh w → Rests x
fresh_rests x w is = subst Rests (sym is) refl

opened_so : (core : CoreState) (i : ℕ) → Rest i core → Opened i core (does core (Open (i + 1) (worker_of (i + 1))))
opened_so core i rest =
    let w : ℕ = worker_of (i + 1) in
    let xs : List Connection = core.connections in
    let many = rest.many in
    let new : conn (does core (Open (i + 1) w)) i ≡ fresh w = new_place xs w i (sym many) in
    let old : (j : ℕ) → (j ≡ i → ⊥) → conn (does core (Open (i + 1) w)) j ≡ conn core j = λ j apart. old_place xs w j (λ same. apart (omega (arith, same, many))) in
    let place : i + 1 - 1 ≡ i = omega arith in
    record {
      rest = record {
        many = let longer = length-append xs (fresh w ∷ []) in omega (arith, longer, many);
        each = λ j. elim (cases_eq j i) [
          | inl same ↦ subst (λ (k : ℕ). Rests (conn (does core (Open (i + 1) w)) k)) (sym same) (fresh_rests (conn (does core (Open (i + 1) w)) i) w new)
          | inr apart ↦ subst Rests (sym (old j apart)) (rest.each j)
        ];
        at = λ j low. elim (cases_eq j i) [
          | inl same ↦
              ap (λ (k : ℕ). (conn (does core (Open (i + 1) w)) k).worker) same ∙ ap (λ (x : Connection). x.worker) new ∙ ap (λ (k : ℕ). k % WORKERS) place ∙ sym (ap (λ (k : ℕ). k % WORKERS) same)
          | inr apart ↦ ap (λ (x : Connection). x.worker) (old j apart) ∙ rest.at j (omega (arith, low, apart))
        ];
        workers = rest.workers;
        free = rest.free;
        published = rest.published;
        pending = rest.pending;
        posts = rest.posts;
        seated = each_so (λ user. HasSeat i (seats_of core) user.session user.slot) (λ user. HasSeat (i + 1) (seats_of (does core (Open (i + 1) w))) user.session user.slot)
            (λ user has.
            let most = has.most in
            let least = has.least in
            record {
              least = has.least;
              most = omega (arith, most);
              seat = ap (λ (x : Connection). x.seat) (old (user.session.0 - 1) (λ same. absurd (omega (arith, same, most, least)))) ∙ has.seat;
            })
            (current core).roster.sessions rest.seated;
      };
      fresh_one = new;
      other = λ j apart. ap (λ (x : Connection). x.seat) (old j apart);
    }

-- when n users came
record Came (i : ℕ) (one all : CourseValue) : Type 0 where
  whole : Whole i one all
  ready : Ready i (current all.core)

module _ (i : ℕ) (low : i < 16) (one course : CourseValue) (came : Came i one course) where
  abbrev opened : CourseValue
  opened = with_step course (Open (i + 1) (worker_of (i + 1)))

  open_is : taken one (Open (i + 1) (worker_of (i + 1))) ≡ opened
  open_is = ap (λ (c : CourseValue). taken c (Open (i + 1) (worker_of (i + 1)))) came.whole.same ∙ same_step course (Open (i + 1) (worker_of (i + 1))) (open_allowed course.core i came.whole.rest)

  next_came : Came (i + 1) (exercise.commanded (i + 1) (login_frame (i + 1)) (taken one (Open (i + 1) (worker_of (i + 1))))) (commanded (i + 1) (login_frame (i + 1)) opened)
  next_came =
      let core : CoreState = opened.core in
      let state : StateValue = current course.core in
      let name : List ℕ = user_name (i + 1) in
      let opens = opened_so course.core i came.whole.rest in
      let unseated : seats_of core i ≡ None = ap (λ (x : Connection). x.seat) opens.fresh_one in
      let untold : (conn core i).version ≡ None = ap (λ (x : Connection). x.version) opens.fresh_one in
      let asks = come_asks (i + 1) i core name opens.rest unseated untold (name_text i low) (name_short i low) in
      let command : Command = asked_login (i + 1) (conn core i).worker name in
      let v : Verdict = verdict_at core i command.what in
      let is : v ≡ Accepted (comes i state) =
      ap (λ (seat : Option Seat). verdict state (option_map (λ (seat : Seat). seat.session) seat) command.what) unseated ∙ login_accepted i state low came.ready in
      let accepted : is_rejected (mark (length core.accepted + 1) v) ≡ false = ap (λ (decided : Verdict). is_rejected (mark (length core.accepted + 1) decided)) is in
      let seated = subst (AllSeated (i + 1) i core) (sym is) (seats_given (i + 1) i core name None [] (omega arith) unseated came.ready.last opens.rest.seated) in
      let done = goes (i + 1) i opened (login_frame (i + 1)) v (commanded_so (i + 1) core i (login_frame (i + 1)) command opens.rest (omega arith) asks accepted seated) in
      let last = came.ready.last in
      let number : next_number state.roster ≡ record { 0 = i + 1 } = ap (λ (k : ℕ). record { 0 = k }) (ap (λ (k : ℕ). k + 1) last) in
      record {
        whole = record {
          same = ap (exercise.commanded (i + 1) (login_frame (i + 1))) open_is ∙ done.same;
          rest = done.rest;
          seats = λ j within. elim (cases_eq j i) [
            | inl here ↦ (
              next_slot state.roster,
              ap (seats_of (commanded (i + 1) (login_frame (i + 1)) opened).core) here ∙ done.own ∙ ap (λ (decided : Verdict). option_or (seat_of decided) (seats_of core i)) is
                  ∙ ap (λ (session : SessionId). Some (seat_as session (next_slot state.roster))) number ∙ sym (ap (λ (k : ℕ). Some (seat_as (record { 0 = k + 1 }) (next_slot state.roster))) here),
            )
            | inr apart ↦
                let seat = came.whole.seats j (omega (arith, within, apart)) in
                (seat.0, done.other j apart ∙ opens.other j apart ∙ seat.1)
          ];
        };
        ready = subst (Ready (i + 1)) (sym (done.state ∙ ap (state_after state) is)) (ready_next i state came.ready);
      }

-- ---- the beginning

plain_roster : (opening None document).roster ≡ empty_roster
unfolding document config_of edits_of channel_edits number_of digits chars is_utf8 encode value lex punctuate content after_number word scan_numeral
plain_roster = refl

plain_password : (opening None document).server.password ≡ None
unfolding document config_of edits_of channel_edits number_of digits chars is_utf8 encode value lex punctuate content after_number word scan_numeral
plain_password = refl

plain_accounts : (opening None document).accounts ≡ []
unfolding document config_of edits_of channel_edits number_of digits chars is_utf8 encode value lex punctuate content after_number word scan_numeral
plain_accounts = refl

plain_revision : (opening None document).counts.revision ≡ 0
unfolding document config_of edits_of channel_edits number_of digits chars is_utf8 encode value lex punctuate content after_number word scan_numeral
plain_revision = refl

none_at : {A : Type 0} (d : A) (j : ℕ) → slice_index_or [] j d ≡ d
none_at d zero = refl
none_at d (suc j) = refl

none_posted : (count slot : ℕ) → let none : List Notice = [] in slice_index_or (replicate count none) slot none ≡ none
none_posted zero zero = refl
none_posted zero (suc slot) = refl
none_posted (suc count) zero = refl
none_posted (suc count) (suc slot) = none_posted count slot

begun_rest : Rest 0 begun.core
begun_rest =
    let state : StateValue = opening None document in
    record {
      many = refl;
      each = λ j. fresh_rests (conn begun.core j) 0 (none_at (fresh 0) j);
      at = λ j low. absurd (omega (arith, low));
      workers = length-replicate WORKERS idle;
      free = λ w. subst (IsFree 0) (sym (idle_at WORKERS w)) (record { held = refl; copies = refl; seen = omega arith; told = omega arith });
      published = refl;
      pending = refl;
      posts = λ slot. none_posted SLOTS slot;
      seated = subst (λ (roster : RosterState). AreSeated 0 (seats_of begun.core) roster.sessions) (sym plain_roster) tt;
    }

begun_ready : Ready 0 (opening None document)
begun_ready = record {
  last = ap (λ (roster : RosterState). roster.last) plain_roster;
  limit = ap (λ (roster : RosterState). roster.limit) plain_roster;
  many = let same = ap (λ (roster : RosterState). length roster.sessions) plain_roster in omega (arith, same);
  names = subst (λ (roster : RosterState). Each (λ (user : User). (k : ℕ) × (k < 0) × (user.name ≡ user_name (k + 1))) roster.sessions) (sym plain_roster) tt;
  password = plain_password;
  accounts = plain_accounts;
  few = let same = plain_revision in omega (arith, same);
}

all_came : (i : ℕ) → i ≤ 16 → Came i (exercise.joined i) (joined i)
unfolding exercise.joined joined
all_came zero low = record { whole = record { same = refl; rest = begun_rest; seats = λ j within. absurd (omega (arith, within)) }; ready = begun_ready }
all_came (suc i) low =
    let on : i + 1 ≡ suc i = omega arith in
    subst (λ (c : ℕ). Came c (exercise.commanded c (login_frame c) (taken (exercise.joined i) (Open c (worker_of c)))) (commanded c (login_frame c) (with_step (joined i) (Open c (worker_of c))))) on
    (next_came i (omega (arith, low)) (exercise.joined i) (joined i) (all_came i (omega (arith, low))))

-- ---- the rounds

-- a round names channels and targets that fit
abbrev IsLow : Act → Type 0
IsLow (Talk target) = target < 2
IsLow (Enter channel) = channel.0 < 2 ^ 32
IsLow (Link channel) = channel.0 < 2 ^ 32
IsLow (SetSelfMute muted) = Unit {0}
IsLow (Listen channel) = channel.0 < 2 ^ 32
IsLow (Aim channel) = channel.0 < 2 ^ 32

either_act : (b : Bool) (x y : Act × Lcg) → IsLow x.0 → IsLow y.0 → IsLow (cond b x y).0
either_act true x y hx hy = hx
either_act false x y hx hy = hy

act_low : (case : ℕ) (g : Lcg) → IsLow (drawn_act case g).0
unfolding drawn_act drawn_below
act_low case g =
    let side = mod_below (pcg32 g).0 2 (omega arith) in
    let eight = mod_below (pcg32 g).0 8 (omega arith) in
    let channel : (pcg32 g).0 % 8 < 2 ^ 32 = omega (arith, eight) in
    either_act (nat_lt case 10) _ _ side
    (either_act (nat_lt case 12) _ _ channel
    (either_act (case == 12) _ _ channel
    (either_act (case == 13) _ _ tt
    (either_act (case == 14) _ _ channel channel))))

round_low : (g : Lcg) → IsLow (drawn_round g).0.act
unfolding drawn_round
round_low g = act_low (drawn_below 16 g).0 (drawn_below 16 (drawn_below 16 g).1).1

-- who is drawn is one of the users
drawn_user : (g : Lcg) → (1 ≤ (drawn_round g).0.connection) × ((drawn_round g).0.connection ≤ USERS)
unfolding drawn_round drawn_below
drawn_user g =
    let below = mod_below (pcg32 (pcg32 g).1).0 16 (omega arith) in
    (omega arith, omega (arith, below))

act_at : (number i : ℕ) (act : Act) (course : CourseValue) → Rest USERS course.core → AllIn USERS (seats_of course.core) → i < USERS → number < 2 ^ 64 → IsLow act
    → Whole USERS (exercise.acted number (i + 1) act course) (acted number (i + 1) act course)
act_at number i (Talk target) course rest all within fits low = speech_whole USERS i target number course rest all within low fits
act_at number i (Enter channel) course rest all within fits low =
    command_whole USERS i course (user_frame (entering channel.0)) rest all within (enter_asks USERS course.core i _ rest (all i within).1 channel.0 low)
act_at number i (Link channel) course rest all within fits low =
    command_whole USERS i course (channel_frame (linking channel.0)) rest all within (link_asks USERS course.core i _ rest (all i within).1 channel.0 low)
act_at number i (SetSelfMute muted) course rest all within fits low =
    command_whole USERS i course (user_frame (self_muting muted)) rest all within (mute_asks USERS course.core i _ rest (all i within).1 muted)
act_at number i (Listen channel) course rest all within fits low =
    command_whole USERS i course (user_frame (listening channel.0)) rest all within (listen_asks USERS course.core i _ rest (all i within).1 channel.0 low)
act_at number i (Aim channel) course rest all within fits low =
    command_whole USERS i course (target_frame (aiming channel.0)) rest all within (aim_asks USERS course.core i _ rest (all i within).1 channel.0 low)

act_whole : (number c : ℕ) (act : Act) (course : CourseValue) → Rest USERS course.core → AllIn USERS (seats_of course.core) → 1 ≤ c → c ≤ USERS → number < 2 ^ 64 → IsLow act
    → Whole USERS (exercise.acted number c act course) (acted number c act course)
act_whole number c act course rest all least most fits low =
    let is : c - 1 + 1 ≡ c = omega (arith, least) in
    subst (λ (d : ℕ). Whole USERS (exercise.acted number d act course) (acted number d act course)) is
    (act_at number (c - 1) act course rest all (omega (arith, least, most)) fits low)

progress_whole : (seed n : ℕ) → n < 2 ^ 64 → (exercise.progress seed n ≡ progress seed n) × Rest USERS (progress seed n).course.core × AllIn USERS (seats_of (progress seed n).course.core)
unfolding exercise.progress progress
progress_whole seed zero fits =
    let came = all_came USERS (omega arith) in
    (ap (λ (course : CourseValue). record { course = course; draws = seeded seed }) came.whole.same, came.whole.rest, came.whole.seats)
progress_whole seed (suc n) fits =
    let before = progress_whole seed n (omega (arith, fits)) in
    let drawn = drawn_round (progress seed n).draws in
    let user = drawn_user (progress seed n).draws in
    let one = act_whole (suc n) drawn.0.connection drawn.0.act (progress seed n).course before.1 before.2 user.0 user.1 fits (round_low (progress seed n).draws) in (
      ap (λ (p : Progress). record { course = exercise.acted (suc n) (drawn_round p.draws).0.connection (drawn_round p.draws).0.act p.course; draws = (drawn_round p.draws).1 }) before.0
          ∙ ap (λ (course : CourseValue). record { course = course; draws = drawn.1 }) one.same,
      one.rest,
      one.seats,
    )

-- the end of a recording is always allowed
pub exercise_whole : (seed rounds : ℕ) → rounds < 2 ^ 64 → exercised seed rounds ≡ exercised_whole seed rounds
unfolding exercised exercised_whole
exercise_whole seed rounds fits =
    let all = progress_whole seed rounds fits in
    ap (λ (p : Progress). taken p.course End) all.0 ∙ same_step (progress seed rounds).course End refl

-- the users are there at the end, and nothing is underway
record Ended (core : CoreState) : Type 0 where
  rest : Rest USERS core
  seats : AllIn USERS (seats_of core)

ended : (seed rounds : ℕ) → rounds < 2 ^ 64 → Ended (exercised seed rounds).core
unfolding exercised_whole
ended seed rounds fits =
    let all = progress_whole seed rounds fits in
    let rest = all.1 in
    subst (λ (course : CourseValue). Ended course.core) (sym (exercise_whole seed rounds fits))
    (record {
      rest = record {
        many = rest.many;
        each = rest.each;
        at = rest.at;
        workers = rest.workers;
        free = rest.free;
        published = rest.published;
        pending = rest.pending;
        posts = rest.posts;
        seated = rest.seated;
      };
      seats = all.2;
    })

pub exercise_rests : (seed rounds : ℕ) → rounds < 2 ^ 64 → IsDone (exercised seed rounds).core
exercise_rests seed rounds fits =
    let rest = (ended seed rounds fits).rest in
    record { published = rest.published; pending = rest.pending; posts = rest.posts; held = λ w. (rest.free w).held; copies = λ w. (rest.free w).copies }

pub user_there : (seed rounds i : ℕ) → rounds < 2 ^ 64 → 1 ≤ i → i ≤ 16
    → (slot : Slot) × ((connection_at (exercised seed rounds).core i).seat ≡ Some (record { session = record { 0 = i }; slot = slot }))
user_there seed rounds i fits least most =
    let core : CoreState = (exercised seed rounds).core in
    let own = (ended seed rounds fits).seats (i - 1) (omega (arith, least, most)) in
    let is : i - 1 + 1 ≡ i = omega (arith, least) in
    (own.0, subst (λ (c : ℕ). (connection_at core c).seat ≡ Some (seat_as (record { 0 = c }) own.0)) is (ap (λ (x : Connection). x.seat) (here core (i - 1)) ∙ own.1))
