-- A command of a core at rest is taken, decided, published and answered, what it brings is collected, and all is at rest again.
use Rattle.mum_laws.proofs.Common.{◌≡◌, ℕ, zero, suc, ◌+◌, ◌≤◌, ◌<◌, ◌%◌, max, Bool, true, false, cond, List, [], ◌∷◌, ◌++◌, length, Option, Some, None, refl, sym, ap, subst, ◌∙◌, arith, length-append, inl, inr, is_none, is_some, nat_lt, not, slice_index_or, AllByRecursion, Contains, flat_map, option_map, option_map_or, option_or, cases_eq, le-ltb, recursion_from_All, fold-append, SessionId, Slot, Mark, User, Edit, Verdict, Accepted, led_to, applied, StateValue, Each, Notice, IsAddressee, IsFor, notices, each_has_its_session_lem, Action, Ask, Asked, Command, mark, edits_of, verdict, Step, Frame, Publish, Tell, Connection, StaysHere, Reply, Seat, first_that_stands, answered, asking, fresh, is_accepted, is_rejected, is_untold, next_command, next_of_frame, revision_of, session_of, told, CoreState, at_connection, at_worker, connection_at, current, is_opened, up, worker_at, IsRun, ran, seat_of, does, frame_action, frame_version, illegal, WorkerState, idle, in_hand, changed-by, length-changed, conn, brings, decided, note, WORKERS}
use Rattle.mum_laws.proofs.{Resting.AreSeated, Resting.HasSeat, Resting.IsFree, Resting.OnlyAt, Resting.Rest, Resting.Rests, Resting.at_rest, Resting.here, Resting.is_there, Resting.no_hands, Resting.only_at, Resting.passed, Resting.seats_of, Bringing.AllBrought, Bringing.AreEmpty, Bringing.Pends, Bringing.Takes, Bringing.all_brought}
use Rattle.mum_base.specs.declared.reply.Mark.TheVariants as marks
use Rattle.mum_record.specs.declared.step.Step.TheVariants as steps
use Rattle.mum_core.specs.steps.Edit as edit_step
use Rattle.mum_core.specs.steps.Frame as frame_step
use Rattle.mum_core.specs.steps.Tell as tell_step

-- ---- a frame may be taken

pub frame_allowed : (n : ℕ) (core : CoreState) (i : ℕ) (bytes : List ℕ) → Rest n core → i < n → illegal core (Frame (i + 1) bytes) ≡ None
frame_allowed n core i bytes rest within =
    let many = rest.many in
    let is : connection_at core (i + 1) ≡ at_rest (conn core i).worker (conn core i).version (conn core i).seat (conn core i).lagged = here core i ∙ rest.each i in
    let worker : ℕ = (connection_at core (i + 1)).worker in
    let closed : is_some (connection_at core (i + 1)).closed ≡ false = ap (λ (x : Connection). is_some x.closed) is in
    let untold : is_untold (connection_at core (i + 1)) ≡ false = ap (λ (x : Connection). is_untold x) is in
    passed (not (is_opened core (i + 1))) _ _ (is_there core i (omega (arith, many, within)))
    (passed (is_some (connection_at core (i + 1)).closed) _ _ closed
    (passed (is_untold (connection_at core (i + 1))) _ _ untold
    (passed (nat_lt 0 (in_hand (worker_at core worker))) _ _ (no_hands (worker_at core worker) (rest.free worker).held (rest.free worker).copies) refl)))

-- ---- the cores on the way

abbrev pub asked_core : CoreState → ℕ → Asked → CoreState
asked_core core i what = record (at_connection (i + 1) (asking what) core) { line = up core.line }

abbrev pub edited_core : CoreState → ℕ → Verdict → CoreState
edited_core core i v = record (edit_step.decides core (i + 1) v) { line = up core.line }

abbrev pub published_core : CoreState → ℕ → Asked → Verdict → CoreState
published_core core i what v = does (edited_core (asked_core core i what) i v) Publish

-- the session of the connection at a place
abbrev pub asker : CoreState → ℕ → Option SessionId
asker core i = option_map (λ (seat : Seat). seat.session) (conn core i).seat

-- what is decided of a command of it
abbrev pub verdict_at : CoreState → ℕ → Asked → Verdict
verdict_at core i what = verdict (current core) (asker core i) what

-- the connection with its command, and with its reply
abbrev waits_for : Connection → Asked → Connection
waits_for x what = record {
  worker = x.worker;
  version = x.version;
  seat = x.seat;
  rejected = false;
  lagged = x.lagged;
  waiting = Some what;
  decided = None;
  leave = StaysHere;
  closed = None;
}

abbrev has_reply : Connection → Reply → Connection
has_reply x reply = record {
  worker = x.worker;
  version = x.version;
  seat = x.seat;
  rejected = false;
  lagged = x.lagged;
  waiting = None;
  decided = Some reply;
  leave = StaysHere;
  closed = None;
}

-- the reply to it
abbrev reply_at : CoreState → ℕ → Asked → Verdict → Reply
reply_at core i what v = edit_step.reply_to (asked_core core i what) (i + 1) v

-- ---- what a `Tell` leaves

-- a note is no greater than what is published
abbrev IsLow : ℕ → Option ℕ → Type 0
IsLow published None = Unit {0}
IsLow published (Some revision) = revision ≤ published

record Told (old : CoreState) (c : ℕ) (new : CoreState) : Type 0 where
  connections : new.connections ≡ (at_connection c told old).connections
  opening : new.opening ≡ old.opening
  accepted : new.accepted ≡ old.accepted
  published : new.published ≡ old.published
  pending : new.pending ≡ old.pending
  posts : new.posts ≡ old.posts
  workers : length new.workers ≡ length old.workers
  free : ((w : ℕ) → IsFree old.published (worker_at old w)) → (w : ℕ) → IsFree old.published (worker_at new w)

noted : (core : CoreState) (w k revision : ℕ) → revision ≤ core.published → IsFree core.published (worker_at core k)
    → IsFree core.published (worker_at (at_worker w (λ worker. record worker { told = max worker.told revision }) core) k)
noted core w k revision low =
    changed-by (λ old new. IsFree core.published old → IsFree core.published new) (λ x free. free) core.workers w k (λ worker. record worker { told = max worker.told revision }) idle
    (λ x found at free. let before = free.told in record { held = free.held; copies = free.copies; seen = free.seen; told = omega (arith, before, low) })

tell_leaves : (core : CoreState) (c w : ℕ) (revision : Option ℕ) → IsLow core.published revision → Told core c (record (tell_step.notes w revision (at_connection c told core)) { line = up core.line })
tell_leaves core c w None low = record {
  connections = refl;
  opening = refl;
  accepted = refl;
  published = refl;
  pending = refl;
  posts = refl;
  workers = refl;
  free = λ all. all;
}
tell_leaves core c w (Some revision) low = record {
  connections = refl;
  opening = refl;
  accepted = refl;
  published = refl;
  pending = refl;
  posts = refl;
  workers = length-changed core.workers w (λ worker. record worker { told = max worker.told revision });
  free = λ all k. noted core w k revision low (all k);
}

-- a note that comes with an accepted edit is allowed where that is published
note_allowed : (core : CoreState) (m : Mark) (seat : Option Seat) (wire : List ℕ) → revision_of m ≤ core.published
    → first_that_stands (tell_step.note_cases core (Some (record { mark = m; seat = seat; wire = wire })) (cond (is_accepted m) (Some core.published) None)) ≡ None
note_allowed core (marks.Accepted revision) seat wire low =
    passed (nat_lt core.published revision) _ _ (le-ltb core.published revision low) (passed (nat_lt core.published core.published) _ _ (le-ltb core.published core.published (omega arith)) refl)
note_allowed core others seat wire low = refl

mark_low : (accepted : List Edit) (v : Verdict) → revision_of (mark (length accepted + 1) v) ≤ length (accepted ++ edits_of v)
mark_low accepted (Accepted edit) = let more = length-append accepted (edit ∷ []) in omega (arith, more)
mark_low accepted others = omega arith

note_low : (published : ℕ) (b : Bool) → IsLow published (cond b (Some published) None)
note_low published true = omega arith
note_low published false = tt

-- ---- whom notices are for

held_by : (P : User → Type 0) (users : List User) (user : User) → Each P users → Contains users user → P user
held_by P [] user all (k, within, is) = absurd (omega (arith, within))
held_by P (x ∷ users) user all (zero, within, is) = subst P is all.0
held_by P (x ∷ users) user all (suc k, within, is) = held_by P users user all.1 (k, omega (arith, within), is)

abbrev pub state_after : StateValue → Verdict → StateValue
state_after state v = led_to state (edits_of v)

notice_seat : (n : ℕ) (seats : ℕ → Option Seat) (before after : StateValue) (edit : Edit) (notice : Notice) → AreSeated n seats before.roster.sessions → AreSeated n seats after.roster.sessions
    → (user : User) × IsAddressee before edit after user × IsFor notice user → HasSeat n seats notice.to notice.slot
notice_seat n seats before after edit notice first later (user, inl now, for) =
    subst (λ (slot : Slot). HasSeat n seats notice.to slot) (sym for.1) (subst (λ (to : SessionId). HasSeat n seats to user.slot) (sym for.0) (held_by (λ user. HasSeat n seats user.session user.slot) after.roster.sessions user later now))
notice_seat n seats before after edit notice first later (user, inr kick, for) =
    subst (λ (slot : Slot). HasSeat n seats notice.to slot) (sym for.1) (subst (λ (to : SessionId). HasSeat n seats to user.slot) (sym for.0) (held_by (λ user. HasSeat n seats user.session user.slot) before.roster.sessions user first kick.2))

notices_seated : (n : ℕ) (seats : ℕ → Option Seat) (state : StateValue) (v : Verdict) → AreSeated n seats state.roster.sessions → AreSeated n seats (state_after state v).roster.sessions
    → AllByRecursion (λ notice. HasSeat n seats notice.to notice.slot) (edit_step.noticed state v)
notices_seated n seats state (Accepted edit) first later =
    recursion_from_All (λ notice. HasSeat n seats notice.to notice.slot) (notices state edit (applied state edit))
    (λ k d inside. notice_seat n seats state (applied state edit) edit (slice_index_or (notices state edit (applied state edit)) k d) first later (each_has_its_session_lem state edit (applied state edit) k d inside))
notices_seated n seats state others first later = tt

rests_by : (y : Connection) (worker : ℕ) (version : Option ℕ) (seat : Option Seat) (lagged : Bool) → y ≡ at_rest worker version seat lagged → Rests y
rests_by y worker version seat lagged is = subst Rests (sym is) refl

-- ---- a command

-- what a command leaves
pub record Answers (n i : ℕ) (core : CoreState) (v : Verdict) (three : CoreState) : Type 0 where
  pub told : illegal three (Tell (i + 1) (note three (decided three (i + 1)))) ≡ None
  pub brought : IsRun (does three (Tell (i + 1) (note three (decided three (i + 1))))) (flat_map brings (does three (Tell (i + 1) (note three (decided three (i + 1))))).pending)
  pub rest : Rest n (ran (does three (Tell (i + 1) (note three (decided three (i + 1))))) (flat_map brings (does three (Tell (i + 1) (note three (decided three (i + 1))))).pending))
  pub own : seats_of (ran (does three (Tell (i + 1) (note three (decided three (i + 1))))) (flat_map brings (does three (Tell (i + 1) (note three (decided three (i + 1))))).pending)) i ≡ option_or (seat_of v) (seats_of core i)
  pub other : (j : ℕ) → (j ≡ i → ⊥) → seats_of (ran (does three (Tell (i + 1) (note three (decided three (i + 1))))) (flat_map brings (does three (Tell (i + 1) (note three (decided three (i + 1))))).pending)) j ≡ seats_of core j
  pub state : current (ran (does three (Tell (i + 1) (note three (decided three (i + 1))))) (flat_map brings (does three (Tell (i + 1) (note three (decided three (i + 1))))).pending)) ≡ state_after (current core) v

-- the seats after a verdict, by their places
pub record SeatedAfter (i : ℕ) (core : CoreState) (v : Verdict) (seats : ℕ → Option Seat) : Type 0 where
  pub own : seats i ≡ option_or (seat_of v) (seats_of core i)
  pub other : (j : ℕ) → (j ≡ i → ⊥) → seats j ≡ seats_of core j

-- all who are there before and after have their seats then
abbrev pub AllSeated : ℕ → ℕ → CoreState → Verdict → Type 0
AllSeated n i core v = (seats : ℕ → Option Seat) → SeatedAfter i core v seats → AreSeated n seats (current core).roster.sessions × AreSeated n seats (state_after (current core) v).roster.sessions

module _ (n : ℕ) (core : CoreState) (i : ℕ) (what : Asked) (v : Verdict) (rest : Rest n core) (within : i < n) where
  abbrev x : Connection
  x = conn core i

  abbrev one : CoreState
  one = asked_core core i what

  abbrev three : CoreState
  three = published_core core i what v

  abbrev r : Reply
  r = reply_at core i what v

  abbrev answering : Connection → Connection
  answering y = answered (next_of_frame y) r y

  there : i < length core.connections
  there = let many = rest.many in omega (arith, many, within)

  only_asked : OnlyAt i (asking what) core.connections one.connections
  only_asked = only_at i (asking what) core there

  waits : conn one i ≡ waits_for x what
  waits = only_asked.own ∙ ap (asking what) (rest.each i)

  waits_at : connection_at one (i + 1) ≡ waits_for x what
  waits_at = here one i ∙ waits

  there_one : i < length one.connections
  there_one = let many = only_asked.many in let low = there in omega (arith, many, low)

  pub edit_allowed : illegal one (steps.Edit (i + 1)) ≡ None
  edit_allowed =
      passed (not (is_opened one (i + 1))) _ _ (is_there one i there_one)
      (passed (is_none (next_command (connection_at one (i + 1)))) _ _ (ap (λ (y : Connection). is_none (next_command y)) waits_at) refl)

  decision_is : edit_step.decision one (i + 1) ≡ Some (verdict_at core i what)
  decision_is = ap (λ (y : Connection). option_map (verdict (current core) (session_of y)) (next_command y)) waits_at

  pub edit_is : does one (steps.Edit (i + 1)) ≡ edited_core one i (verdict_at core i what)
  edit_is = ap (λ (d : Option Verdict). record (option_map_or (edit_step.decides one (i + 1)) d one) { line = up one.line }) decision_is

  only_answered : OnlyAt i answering one.connections three.connections
  only_answered = only_at i answering one there_one

  has : conn three i ≡ has_reply x r
  has = only_answered.own ∙ ap answering waits

  has_at : connection_at three (i + 1) ≡ has_reply x r
  has_at = here three i ∙ has

  there_three : i < length three.connections
  there_three = let many = only_answered.many in let low = there_one in omega (arith, many, low)

  -- ---- the `Tell`

  abbrev revision : Option ℕ
  revision = note three (decided three (i + 1))

  abbrev four : CoreState
  four = does three (Tell (i + 1) revision)

  revision_is : revision ≡ cond (is_accepted r.mark) (Some three.published) None
  revision_is = ap (λ (y : Connection). note three (option_map (λ (reply : Reply). reply.mark) y.decided)) has_at

  tell_allowed : illegal three (Tell (i + 1) revision) ≡ None
  tell_allowed =
      passed (not (is_opened three (i + 1))) _ _ (is_there three i there_three)
      (passed (is_none (connection_at three (i + 1)).decided) _ _ (ap (λ (y : Connection). is_none y.decided) has_at)
      (ap (λ (y : Connection). first_that_stands (tell_step.note_cases three y.decided (note three (option_map (λ (reply : Reply). reply.mark) y.decided)))) has_at
      ∙ note_allowed three r.mark r.seat r.wire (mark_low core.accepted v)))

  leaves : Told three (i + 1) four
  leaves = tell_leaves three (i + 1) (connection_at three (i + 1)).worker revision (subst (IsLow three.published) (sym revision_is) (note_low three.published (is_accepted r.mark)))

  only_told : OnlyAt i told three.connections four.connections
  only_told = subst (OnlyAt i told three.connections) (sym leaves.connections) (only_at i told three there_three)

  module _ (accepted : is_rejected (mark (length core.accepted + 1) v) ≡ false) where
    told_is : conn four i ≡ at_rest x.worker x.version (option_or (seat_of v) x.seat) x.lagged
    told_is =
        only_told.own ∙ ap told has
        ∙ ap (λ (b : Bool). record (at_rest x.worker x.version (option_or (seat_of v) x.seat) x.lagged) { rejected = b }) accepted

    others_are : (j : ℕ) → (j ≡ i → ⊥) → conn four j ≡ conn core j
    others_are j other = only_told.other j other ∙ only_answered.other j other ∙ only_asked.other j other

    seated_after : SeatedAfter i core v (seats_of four)
    seated_after = record {
      own = ap (λ (y : Connection). y.seat) told_is;
      other = λ j other. ap (λ (y : Connection). y.seat) (others_are j other);
    }

    four_rests : (j : ℕ) → Rests (conn four j)
    four_rests j = elim (cases_eq j i) [
      | inl same ↦
          subst (λ (k : ℕ). Rests (conn four k)) (sym same) (rests_by (conn four i) x.worker x.version (option_or (seat_of v) x.seat) x.lagged told_is)
      | inr other ↦ subst Rests (sym (others_are j other)) (rest.each j)
    ]

    many_four : length four.connections ≡ n
    many_four = only_told.many ∙ only_answered.many ∙ only_asked.many ∙ rest.many

    pends : Pends (edit_step.noticed (current core) v) four
    pends = record {
      pending = leaves.pending ∙ ap (λ (ns : List Notice). ns ++ edit_step.noticed (current core) v) rest.pending;
      empty = subst AreEmpty (sym leaves.posts) rest.posts;
    }

    takes : AllSeated n i core v → Takes four.connections (edit_step.noticed (current core) v)
    takes all =
        let seated = all (seats_of four) seated_after in
        record {
          rest = four_rests;
          seats = subst (λ (k : ℕ). AllByRecursion (λ notice. HasSeat k (seats_of four) notice.to notice.slot) (edit_step.noticed (current core) v)) (sym many_four)
              (notices_seated n (seats_of four) (current core) v seated.0 seated.1);
        }

    worker_four : (j : ℕ) → j < n → (conn four j).worker ≡ j % WORKERS
    worker_four j low = elim (cases_eq j i) [
      | inl same ↦
          ap (λ (k : ℕ). (conn four k).worker) same ∙ ap (λ (y : Connection). y.worker) told_is ∙ sym (ap (λ (k : ℕ). (conn core k).worker) same) ∙ rest.at j low
      | inr other ↦ ap (λ (y : Connection). y.worker) (others_are j other) ∙ rest.at j low
    ]

    free_three : (w : ℕ) → IsFree three.published (worker_at three w)
    free_three w =
        let free = rest.free w in
        let seen = free.seen in
        let noted = free.told in
        let published = rest.published in
        let more = length-append core.accepted (edits_of v) in
        record { held = free.held; copies = free.copies; seen = omega (arith, seen, published, more); told = omega (arith, noted, published, more) }

    pub answers : AllSeated n i core v → Answers n i core v three
    answers all =
        let seated = all (seats_of four) seated_after in
        let done : AllBrought four (flat_map brings four.pending) =
        subst (λ (ns : List Notice). AllBrought four (flat_map brings ns)) (sym pends.pending) (all_brought (edit_step.noticed (current core) v) four pends (takes all)) in
        let five : CoreState = ran four (flat_map brings four.pending) in
        let connections : five.connections ≡ four.connections = done.stays.connections in
        let same_conn : (j : ℕ) → conn five j ≡ conn four j = λ j. ap (λ (xs : List Connection). slice_index_or xs j (fresh 0)) connections in
        let published : five.published ≡ three.published = done.stays.published ∙ leaves.published in
        let accepted_five : five.accepted ≡ three.accepted = done.stays.accepted ∙ leaves.accepted in
        let state : current five ≡ state_after (current core) v =
        ap (λ (s : StateValue). led_to s five.accepted) (done.stays.opening ∙ leaves.opening) ∙ ap (led_to core.opening) accepted_five
        ∙ fold-append applied core.opening core.accepted (edits_of v) in
        record {
          told = tell_allowed;
          brought = done.allowed;
          rest = record {
            many = ap (λ (xs : List Connection). length xs) connections ∙ many_four;
            each = λ j. subst Rests (sym (same_conn j)) (four_rests j);
            at = λ j low. ap (λ (y : Connection). y.worker) (same_conn j) ∙ worker_four j low;
            workers = ap (λ (ws : List WorkerState). length ws) done.stays.workers ∙ leaves.workers ∙ rest.workers;
            free = λ w.
                subst (λ (p : ℕ). IsFree p (worker_at five w)) (sym published)
                (subst (λ (ws : List WorkerState). IsFree three.published (slice_index_or ws w idle)) (sym done.stays.workers) (leaves.free free_three w));
            published = published ∙ sym (ap (λ (es : List Edit). length es) accepted_five);
            pending = done.pends.pending;
            posts = done.pends.empty;
            seated =
                subst (λ (s : StateValue). AreSeated n (seats_of five) s.roster.sessions) (sym state)
                (subst (λ (xs : List Connection). AreSeated n (λ (j : ℕ). (slice_index_or xs j (fresh 0)).seat) (state_after (current core) v).roster.sessions) (sym connections) seated.1);
          };
          own = ap (λ (y : Connection). y.seat) (same_conn i) ∙ seated_after.own;
          other = λ j other. ap (λ (y : Connection). y.seat) (same_conn j) ∙ seated_after.other j other;
          state = state;
        }

-- ---- the whole command

abbrev pub command_steps : ℕ → List ℕ → List Step
command_steps c bytes = Frame c bytes ∷ steps.Edit c ∷ Publish ∷ []

-- a command that is taken, and what it leaves
pub record Commanded (n i : ℕ) (core : CoreState) (bytes : List ℕ) (v : Verdict) : Type 0 where
  pub run : IsRun core (command_steps (i + 1) bytes)
  pub answers : Answers n i core v (ran core (command_steps (i + 1) bytes))

pub commanded_so : (n : ℕ) (core : CoreState) (i : ℕ) (bytes : List ℕ) (command : Command) → Rest n core → i < n → frame_action core (i + 1) bytes ≡ Ask command
    → is_rejected (mark (length core.accepted + 1) (verdict_at core i command.what)) ≡ false → AllSeated n i core (verdict_at core i command.what)
    → Commanded n i core bytes (verdict_at core i command.what)
commanded_so n core i bytes command rest within asks accepted seated =
    let what : Asked = command.what in
    let v : Verdict = verdict_at core i what in
    let one : does core (Frame (i + 1) bytes) ≡ asked_core core i what =
    ap (λ (a : Action). record (frame_step.does core (i + 1) (frame_version core (i + 1) bytes) a) { line = up core.line }) asks in
    let two : does (asked_core core i what) (steps.Edit (i + 1)) ≡ edited_core (asked_core core i what) i v = edit_is n core i what v rest within in
    let all : ran core (command_steps (i + 1) bytes) ≡ published_core core i what v =
    ap (λ (new : CoreState). does (does new (steps.Edit (i + 1))) Publish) one ∙ ap (λ (new : CoreState). does new Publish) two in
    record {
      run = (frame_allowed n core i bytes rest within, (subst (λ (new : CoreState). illegal new (steps.Edit (i + 1)) ≡ None) (sym one) (edit_allowed n core i what v rest within), (refl, tt)));
      answers = subst (Answers n i core v) (sym all) (answers n core i what v rest within accepted seated);
    }
