-- Each session that a packet is routed for was given by a login that is on the roll.
use Rattle.mum_worker_laws.proofs.Common.{◌≡◌, ◌==◌, ◌&&◌, ℕ, zero, suc, true, IsTrue, slice_get, List, [], ◌∷◌, All, Option, Some, None, ap, sym, subst, inl, inr, Each, Contains, ForSome, eqb-true, All-from_recursion, Contains-append_left, Contains-from_any, IsPrefix, Cause, SessionId, ReplyEnd, Joined, Decided, Rejected, Along, TurnsTo, Turn, Frame, LinkFacts, action_of, machine_after, PortFacts, new_port, Answers, Lags, PortRoutes, PassesFacts, and-left, and-right, connection-after_frame, stage-after_frame, told_by_passes, Rung, Answer, Comes, Lagging, NoMore, Opening, is_admitted, is_on_roll, login, Login, after_frame, Machine, answered, session_of, Action, Voice, BoxesFacts, WorkerFacts, intake_of, stays, AnswersFirst, Hears, LagsWhereIts, TakesOrTurns, HasOpened, RecordFacts, CommonFacts, RoutesPacket, PortSteps, Shares, Turned, WorkerTurned, shares_of, Intake, HasLogin, IsLoggedIn, Look, Moment, Told, Looked, Took, history, login_made, look_asked, look_made, look_stepped, looks_in, moments_along, moments_of, moments_stepped, takes_by, told_by}
use Rattle.mum_session.specs.declared.session.Stage.{Stage}
use Rattle.mum_worker_laws.proofs.{Counts.each-append, Counts.each_left, Counts.each_so, Going.go_along, Going.go_heard, Going.go_turns, Lasting.first_is_of, Waiting.each_set}

-- ---- the roll

same_login : (x y : Login) → ((y.connection == x.connection) && (y.session.0 == x.session.0)) ≡ true → x ≡ y
same_login x y same =
    let connections = eqb-true y.connection x.connection (and-left (y.connection == x.connection) _ same) in
    let sessions = eqb-true y.session.0 x.session.0 (and-right (y.connection == x.connection) _ same) in
    λ i. record { connection = sym connections i; session = record { 0 = sym sessions i } }

on_roll : (connection : ℕ) (session : SessionId) (roll : List Login) → IsTrue (is_on_roll connection session roll) → Contains roll (login connection session)
on_roll connection session roll is =
    Contains-from_any {eq = λ (x y : Login). (y.connection == x.connection) && (y.session.0 == x.session.0)} same_login (login connection session) roll is

-- a roll that goes on has what it had
pub on_longer : (one : Login) (roll longer : List Login) → IsPrefix roll longer → Contains roll one → Contains longer one
on_longer one roll longer front has = subst (λ (l : List Login). Contains l one) front.1 (Contains-append_left roll front.0 one has)

for_some : {A : Type 0} (P Q : A → Type 0) → ((x : A) → P x → Q x) → (o : Option A) → ForSome o P → ForSome o Q
for_some P Q so o has = λ x is. so x (has x is)

logged_in_longer : (roll longer : List Login) → IsPrefix roll longer → (machine : Machine) → IsLoggedIn roll machine → IsLoggedIn longer machine
logged_in_longer roll longer front machine has =
    for_some (λ (s : SessionId). Contains roll (login machine.connection s)) (λ (s : SessionId). Contains longer (login machine.connection s))
    (λ s is. on_longer (login machine.connection s) roll longer front is) (session_of machine.stage) has

-- a packet of a session that the roll has
abbrev IsAdmitted : List Login → Moment → Type 0
IsAdmitted roll (Told reply) = Unit {0}
IsAdmitted roll (Looked look) = Contains roll (login_made look)
IsAdmitted roll (Took takes learnt) = Unit {0}

admitted_longer : (roll longer : List Login) → IsPrefix roll longer → (moment : Moment) → IsAdmitted roll moment → IsAdmitted longer moment
admitted_longer roll longer front (Told reply) is = tt
admitted_longer roll longer front (Took takes learnt) is = tt
admitted_longer roll longer front (Looked look) is = on_longer (login_made look) roll longer front is

each_at : {A : Type 0} (P : A → Type 0) (xs : List A) (k : ℕ) (x : A) → slice_get xs k ≡ Some x → Each P xs → P x
each_at P [] zero x there each = absurd (cc there)
each_at P [] (suc k) x there each = absurd (cc there)
each_at P (y ∷ xs) zero x there each = let same : y ≡ x = cc there in subst P same each.0
each_at P (y ∷ xs) (suc k) x there each = each_at P xs k x there each.1

looks_admitted : (roll : List Login) (moments : List Moment) → Each (IsAdmitted roll) moments → Each (λ (look : Look). Contains roll (login_made look)) (looks_in moments)
looks_admitted roll [] each = tt
looks_admitted roll (Told reply ∷ moments) each = looks_admitted roll moments each.1
looks_admitted roll (Took takes learnt ∷ moments) each = looks_admitted roll moments each.1
looks_admitted roll (Looked look ∷ moments) each = (each.0, looks_admitted roll moments each.1)

-- ---- the machine of a connection

-- the session stays whatever frame comes
handled_logged_in : (roll : List Login) (machine : Machine) (frame : Option Frame) → IsLoggedIn roll machine → IsLoggedIn roll (machine_after machine frame)
handled_logged_in roll machine None has = has
handled_logged_in roll machine (Some frame) has =
    let after : Machine = after_frame machine frame.kind frame.payload in
    subst (λ (s : Stage). ForSome (session_of s) (λ one. Contains roll (login after.connection one))) (sym (stage-after_frame machine frame.kind frame.payload))
    (subst (λ (n : ℕ). ForSome (session_of machine.stage) (λ one. Contains roll (login n one))) (sym (connection-after_frame machine frame.kind frame.payload)) has)

-- the login that a reply reports is on the roll
abbrev IsGiven : List Login → ℕ → ReplyEnd → Type 0
IsGiven roll connection (Joined session slot) = Contains roll (login connection session)
IsGiven roll connection others = Unit {0}

given : (end : ReplyEnd) (connection : ℕ) (roll longer : List Login) → IsPrefix roll longer → IsTrue (is_admitted end connection roll) → IsGiven longer connection end
given (Joined session slot) connection roll longer front is = on_longer (login connection session) roll longer front (on_roll connection session roll is)
given Decided connection roll longer front is = tt
given Rejected connection roll longer front is = tt

-- a reply gives no other session
answered_logged_in : (roll : List Login) (end : ReplyEnd) (machine : Machine) → IsGiven roll machine.connection end → IsLoggedIn roll machine → IsLoggedIn roll (answered end machine)
answered_logged_in roll (Joined session slot) machine is has = λ one some.
    let same : session ≡ one = cc some in subst (λ (s : SessionId). Contains roll (login machine.connection s)) same is
answered_logged_in roll Decided machine is has = has
answered_logged_in roll Rejected machine is has = λ one some. absurd (cc some)

-- ---- the step of a port

module _ (opening : Opening) (roll : List Login) where
  made_admitted : (old : CommonFacts) (connection : ℕ) (speaker : SessionId) (bytes : List ℕ) (new : CommonFacts) (routes : RoutesPacket opening old connection speaker bytes new)
      → Contains roll (login connection speaker) → Each (IsAdmitted roll) (look_made opening old connection speaker bytes new routes)
  made_admitted old connection speaker bytes new (inl drops) has = tt
  made_admitted old connection speaker bytes new (inr keeps) has = (has, tt)

  asked_admitted : (connection : ℕ) (session : Option SessionId) (does : Option Action) (old new : CommonFacts) (routes : PortRoutes (RoutesPacket opening) connection session does old new)
      → ForSome session (λ one. Contains roll (login connection one)) → Each (IsAdmitted roll) (look_asked opening connection session does old new routes)
  asked_admitted connection session (Some (Voice packet)) old new routes has =
      made_admitted old connection routes.0 packet new routes.2 (has routes.0 routes.1)
  asked_admitted connection session others old new same has = tt

  module _ {L : Type 0} (facts : L → LinkFacts) where
    step_admitted : (boxes : BoxesFacts) (old : PortFacts L) (before : Shares) (new : PortFacts L) (after : Shares) (steps : PortSteps facts opening boxes old before new after) → HasLogin roll old
        → Each (IsAdmitted roll) (moments_stepped opening facts boxes old before new after steps)
    step_admitted boxes old before new after steps has =
        each-append (IsAdmitted roll) (look_stepped opening facts boxes old before new after steps) (Took (takes_by old.machine steps.turned.0) (told_by_passes new.passes) ∷ [])
        (asked_admitted old.machine.connection (session_of old.machine.stage) (action_of old.machine steps.turned.0.handled) before.common steps.routed steps.turned.1.routes has)
        (tt, tt)

    step_logged_in : (boxes : BoxesFacts) (old : PortFacts L) (before : Shares) (new : PortFacts L) (after : Shares) → PortSteps facts opening boxes old before new after → HasLogin roll old → HasLogin roll new
    step_logged_in boxes old before new after steps has =
        subst (λ (m : Machine). IsLoggedIn roll m) (sym steps.turned.1.handles.machine) (handled_logged_in roll old.machine steps.turned.0.handled has)

    along_admitted : (boxes : BoxesFacts) (olds : List (PortFacts L)) (before : Shares) (news : List (PortFacts L)) (after : Shares) (along : Along (PortSteps facts opening boxes) olds before news after)
        → Each (HasLogin roll) olds → Each (HasLogin roll) news × Each (IsAdmitted roll) (moments_along opening facts boxes olds before news after along)
    along_admitted boxes [] before [] after same have = (tt, tt)
    along_admitted boxes [] before (new ∷ news) after along have = absurd along
    along_admitted boxes (old ∷ olds) before [] after along have = absurd along
    along_admitted boxes (old ∷ olds) before (new ∷ news) after (between, steps, along) have =
        let rest = along_admitted boxes olds between news after along have.1 in (
          (step_logged_in boxes old before new between steps have.0, rest.0),
          each-append (IsAdmitted roll) (moments_stepped opening facts boxes old before new between steps) (moments_along opening facts boxes olds between news after along)
              (step_admitted boxes old before new between steps have.0) rest.1,
        )

    -- ---- the bell

    answer_logged_in : (end : ReplyEnd) (wire : List ℕ) (passes : Option PassesFacts) (old : PortFacts L) (closed : Option Cause) (new : PortFacts L) → Answers facts end wire passes old closed new
        → IsGiven roll old.machine.connection end → HasLogin roll old → HasLogin roll new
    answer_logged_in end wire passes old closed new (inl stays) is has = subst (λ (p : PortFacts L). HasLogin roll p) (sym stays.same) has
    answer_logged_in end wire passes old closed new (inr (inl takes)) is has =
        subst (λ (m : Machine). IsLoggedIn roll m) (sym (ap (λ (p : PortFacts L). p.machine) takes.rest)) (answered_logged_in roll end old.machine is has)
    answer_logged_in end wire passes old closed new (inr (inr closes)) is has =
        subst (λ (m : Machine). IsLoggedIn roll m) (sym (ap (λ (p : PortFacts L). p.machine) closes.closes.rest)) (answered_logged_in roll end old.machine is has)

    first_logged_in : (connection : ℕ) (end : ReplyEnd) (wire : List ℕ) (passes : Option PassesFacts) (olds : List (PortFacts L)) (closed : Option Cause) (news : List (PortFacts L))
        → AnswersFirst facts connection end wire passes olds closed news → IsGiven roll connection end → Each (HasLogin roll) olds → Each (HasLogin roll) news
    first_logged_in connection end wire passes olds closed news (inl none) is have = subst (λ (l : List (PortFacts L)). Each (HasLogin roll) l) (sym none.same) have
    first_logged_in connection end wire passes olds closed news (inr first) is have =
        let its : first.old.machine.connection ≡ connection = eqb-true first.old.machine.connection connection (first_is_of facts opening connection olds first.place first.old first.first first.there) in
        subst (λ (l : List (PortFacts L)). Each (HasLogin roll) l) (sym first.others)
        (each_set (HasLogin roll) olds first.place first.new
        (answer_logged_in end wire passes first.old closed first.new first.answers (subst (λ (n : ℕ). IsGiven roll n end) (sym its) is) (each_at (HasLogin roll) olds first.place first.old first.there have))
        have)

    lag_logged_in : (session : SessionId) (old : PortFacts L) (before : RecordFacts) (new : PortFacts L) (after : RecordFacts) → LagsWhereIts facts session old before new after → HasLogin roll old → HasLogin roll new
    lag_logged_in session old before new after (inl passes) has = subst (λ (p : PortFacts L). HasLogin roll p) (sym passes.same) has
    lag_logged_in session old before new after (inr lags) has = closes_logged_in old lags.closed new lags.lags has
      where
        closes_logged_in : (old : PortFacts L) (closed : Option Cause) (new : PortFacts L) → Lags facts old closed new → HasLogin roll old → HasLogin roll new
        closes_logged_in old closed new (inl stays) has = subst (λ (p : PortFacts L). HasLogin roll p) (sym stays.same) has
        closes_logged_in old closed new (inr closes) has = subst (λ (m : Machine). IsLoggedIn roll m) (sym (ap (λ (p : PortFacts L). p.machine) closes.2.rest)) has

    lags_logged_in : (session : SessionId) (olds : List (PortFacts L)) (before : RecordFacts) (news : List (PortFacts L)) (after : RecordFacts) → Along (LagsWhereIts facts session) olds before news after
        → Each (HasLogin roll) olds → Each (HasLogin roll) news
    lags_logged_in session [] before [] after same have = tt
    lags_logged_in session [] before (new ∷ news) after along have = absurd along
    lags_logged_in session (old ∷ olds) before [] after along have = absurd along
    lags_logged_in session (old ∷ olds) before (new ∷ news) after (between, lags, along) have =
        (lag_logged_in session old before new between lags have.0, lags_logged_in session olds between news after along have.1)

    takes_logged_in : (intake : Intake) (connection : ℕ) (link : L) (ports : List (PortFacts L)) (kept : RecordFacts) (intake_after : Intake) (ports_after : List (PortFacts L)) (kept_after : RecordFacts)
        → TakesOrTurns intake connection link ports kept intake_after ports_after kept_after → Each (HasLogin roll) ports → Each (HasLogin roll) ports_after
    takes_logged_in intake connection link ports kept intake_after ports_after kept_after (inl takes) have =
        subst (λ (l : List (PortFacts L)). Each (HasLogin roll) l) (sym takes.ports_are)
        (each-append (HasLogin roll) ports (new_port connection intake.number link ∷ []) have (λ one some. absurd (cc some), tt))
    takes_logged_in intake connection link ports kept intake_after ports_after kept_after (inr turns) have = subst (λ (l : List (PortFacts L)). Each (HasLogin roll) l) (sym turns.ports_same) have

-- ---- the turns

module _ {L : Type 0} (facts : L → LinkFacts) (opening : Opening) where
  -- the sessions of its ports are on the roll that a worker learnt
  abbrev AreLoggedIn : List Login → WorkerFacts L → Type 0
  AreLoggedIn roll worker = Each (HasLogin roll) worker.ports

  have_longer : (roll longer : List Login) (ports : List (PortFacts L)) → IsPrefix roll longer → Each (HasLogin roll) ports → Each (HasLogin longer) ports
  have_longer roll longer ports front have = each_so (HasLogin roll) (HasLogin longer) (λ port has. logged_in_longer roll longer front port.machine has) ports have

  heard_logged_in : (item : Option (Rung L)) (old new : WorkerFacts L) → Hears facts item old new → Each (HasLogin new.common.router.pass.roll) old.ports → Each (HasLogin new.common.router.pass.roll) new.ports
  heard_logged_in None old new same have = subst (λ (w : WorkerFacts L). Each (HasLogin new.common.router.pass.roll) w.ports) (sym same) have
  heard_logged_in (Some (Answer reply)) old new hears have =
      first_logged_in opening new.common.router.pass.roll facts reply.connection reply.end reply.wire hears.takes.passes old.ports hears.takes.closed new.ports hears.takes.answers
      (given reply.end reply.connection reply.roll new.common.router.pass.roll hears.takes.admits.0.its hears.takes.admitted) have
  heard_logged_in (Some (Comes connection link)) old new hears have =
      takes_logged_in opening new.common.router.pass.roll facts (intake_of old) connection link old.ports old.common.kept (intake_of new) new.ports new.common.kept hears.takes have
  heard_logged_in (Some (Lagging session)) old new hears have =
      subst (λ (l : List (PortFacts L)). Each (HasLogin new.common.router.pass.roll) l) (sym hears.each.left)
      (each_left (HasLogin new.common.router.pass.roll) stays hears.each.stepped
      (lags_logged_in opening new.common.router.pass.roll facts session old.ports old.common.kept hears.each.stepped new.common.kept hears.each.along have))
  heard_logged_in (Some NoMore) old new same have = subst (λ (w : WorkerFacts L). Each (HasLogin new.common.router.pass.roll) w.ports) (sym same) have

  none_told : (roll : List Login) (item : Option (Rung L)) → Each (IsAdmitted roll) (told_by item)
  none_told roll None = tt
  none_told roll (Some (Answer reply)) = (tt, tt)
  none_told roll (Some (Comes connection link)) = tt
  none_told roll (Some (Lagging session)) = tt
  none_told roll (Some NoMore) = tt

  turn_admitted : (old new : WorkerFacts L) (turn : Turn) (turned : Turned facts opening old new turn) → AreLoggedIn old.common.router.pass.roll old
      → AreLoggedIn new.common.router.pass.roll new × Each (IsAdmitted new.common.router.pass.roll) (moments_of facts opening old new turn turned)
  turn_admitted old new turn turned have =
      let begun : WorkerFacts L = record old { bell = turned.hears.bell } in
      let between = turned.between in
      let looks : List Moment = moments_along opening facts between.boxes between.ports (shares_of between turned.heard) turned.steps.steps.stepped (shares_of new turned.worked) turned.steps.steps.along in
      let learnt = (go_heard opening facts turned.hears.item begun between turned.hears.hears).rolls in
      let later = (go_along opening facts between.boxes between.ports (shares_of between turned.heard) turned.steps.steps.stepped (shares_of new turned.worked) turned.steps.steps.along).rolls in
      let roll : List Login = new.common.router.pass.roll in
      let there = heard_logged_in turned.hears.item begun between turned.hears.hears (have_longer old.common.router.pass.roll between.common.router.pass.roll old.ports learnt have) in
      let stepped = along_admitted opening roll facts between.boxes between.ports (shares_of between turned.heard) turned.steps.steps.stepped (shares_of new turned.worked) turned.steps.steps.along
      (have_longer between.common.router.pass.roll roll between.ports later there) in (
        subst (λ (l : List (PortFacts L)). Each (HasLogin roll) l) (sym turned.steps.steps.left) (each_left (HasLogin roll) stays turned.steps.steps.stepped stepped.0),
        each-append (IsAdmitted roll) (told_by turned.hears.item) looks (none_told roll turned.hears.item) stepped.1,
      )

  pub all_admitted : (old : WorkerFacts L) (turns : List Turn) (new : WorkerFacts L) (all : TurnsTo (WorkerTurned facts opening) old turns new) → AreLoggedIn old.common.router.pass.roll old
      → AreLoggedIn new.common.router.pass.roll new × Each (IsAdmitted new.common.router.pass.roll) (history facts opening old turns new all)
  all_admitted old [] new same have = (subst (λ (w : WorkerFacts L). AreLoggedIn w.common.router.pass.roll w) (sym same) have, tt)
  all_admitted old (turn ∷ turns) new (mid, turned, rest) have =
      let first = turn_admitted old mid turn turned have in
      let others = all_admitted mid turns new rest first.0 in
      let roll : List Login = new.common.router.pass.roll in (
        others.0,
        each-append (IsAdmitted roll) (moments_of facts opening old mid turn turned) (history facts opening mid turns new rest)
            (each_so (IsAdmitted mid.common.router.pass.roll) (IsAdmitted roll) (λ moment is. admitted_longer mid.common.router.pass.roll roll (go_turns opening facts mid turns new rest).rolls moment is)
            (moments_of facts opening old mid turn turned) first.1) others.1,
      )

  pub from_opened : (number : ℕ) (pass : _) (journal : Option ℕ) (opened : WorkerFacts L) → HasOpened number pass journal opened → AreLoggedIn opened.common.router.pass.roll opened
  from_opened number pass journal opened begun = subst (λ (l : List (PortFacts L)). Each (HasLogin opened.common.router.pass.roll) l) (sym begun.no_port) tt

  pub looks_logged_in : (old : WorkerFacts L) (turns : List Turn) (new : WorkerFacts L) (all : TurnsTo (WorkerTurned facts opening) old turns new) → AreLoggedIn old.common.router.pass.roll old
      → All (λ (look : Look). Contains new.common.router.pass.roll (login_made look)) (looks_in (history facts opening old turns new all))
  looks_logged_in old turns new all have =
      All-from_recursion (λ (look : Look). Contains new.common.router.pass.roll (login_made look)) (looks_in (history facts opening old turns new all))
      (looks_admitted new.common.router.pass.roll (history facts opening old turns new all) (all_admitted old turns new all have).1)

  pub ports_logged_in : (old : WorkerFacts L) (turns : List Turn) (new : WorkerFacts L) → TurnsTo (WorkerTurned facts opening) old turns new → AreLoggedIn old.common.router.pass.roll old
      → All (HasLogin new.common.router.pass.roll) new.ports
  ports_logged_in old turns new all have =
      All-from_recursion (HasLogin new.common.router.pass.roll) new.ports (all_admitted old turns new all have).0
