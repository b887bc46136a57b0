-- The command of a frame is decided in a core in which nothing is underway, and leaves such a core.
use Rattle.mum_recording_laws.proofs.Common.{◌≡◌, ℕ, ◌+◌, ◌==◌, ◌^◌, ◌≤◌, ◌<◌, ◌⊎◌, max, Bool, true, false, cond, List, [], ◌∷◌, ◌++◌, length, length-append, Option, Some, None, refl, sym, ap, subst, ◌∙◌, arith, inl, inr, IfSome, is_none, is_some, nat_lt, not, option_to_list, slice_index_or, AllZip, list_any, option_map, option_or, le-ltb, eqb-true, kind_of, payload_of, AUTHENTICATE, ControlEntry, Step, Close, Frame, Publish, Tell, action, after_frame, commands_after_login, command_heard, login_heard, mark, edits_of, verdict, Mark, first_that_stands, WorkerState, has_edit, note_cases, changed-by, Keeps, notes_keep, AreOrderly, Action, Ask, Keep, Asked, Heard, Malformed, Message, Edit, Verdict, Connection, LeaveStage, Reply, Seat, answered, asking, is_accepted, is_rejected, next_command, next_of_frame, seat_given, session_of, told, CoreState, at_connection, connection_at, current, is_opened, up, worker_at, IsRun, gathered, ran, machine_of, does, frame_action, frame_version, illegal, idle, after_entry, mark_on, verdict_on, Past, session_in, IsAsked, IsCommand, has_version, leaves, rejects, Decided, IsDecided, command_of, decided, frame_heard, routed}
use Rattle.mum_core.specs.Connection.{revision_of}
use Rattle.mum_recording_laws.proofs.{Holding.as_many, Options.none_some, Options.none_there, Asking.at_rest, Asking.command_by, Asking.frame_asks, Asking.version_frame, Asking.version_kept, Asking.version_told, Done.Done, Following.Follows, Following.after, Following.does_is, Following.follows_entry, Following.follows_quiet, Following.verdict_of, Joining.gathered_joined, Joining.orderly_joined, Joining.ran_joined, Joining.run_joined, Moving.Alike, Moving.IsFree, Moving.IsOpen, Moving.alike_itself, Moving.free_more, Moving.Moves, Moving.frame_allowed, Moving.moves_at, Moving.moves_on, Moving.passed, Moving.still_opened, Resting.Ready, Resting.Sits, Resting.calm_of, Resting.neither, Resting.own_test, Resting.settles, Resting.sits_on, Sitting.AreCalm, Sitting.calm_step, Seated.welcomed}
use Rattle.mum_record.specs.declared.step.Step.TheVariants as steps
use Rattle.mum_base.specs.declared.reply.Mark.TheVariants as marks
use Rattle.mum_state.specs.declared.verdict.Verdict.TheVariants as verdicts
use Rattle.mum_core.specs.steps.Tell as tell_step
use Rattle.mum_core.specs.declared.connection.Leave.TheVariants as leaving
use Rattle.mum_core.specs.steps.Edit as edit_step
use Rattle.mum_core.specs.steps.Frame as frame_step

-- ---- a version

-- the version after a report, if there is one
abbrev reported_by : Option ℕ → Option ℕ → Option ℕ
reported_by None before = before
reported_by (Some number) before = Some number

abbrev reports : Option ℕ → ℕ → List Step
reports None c = []
reports (Some number) c = Frame c (version_frame number) ∷ []

-- the steps decide and route nothing, and change one connection
record Stepped (c : ℕ) (change : Connection → Connection) (core : CoreState) (past : Past) (run : List Step) : Type 0 where
  allowed : IsRun core run
  moves : Moves c change core (ran core run)
  follows : Follows (ran core run) past
  calm : AreCalm (ran core run)
  decides : gathered decided core run ≡ []
  silent : (w : ℕ) → gathered (routed w) core run ≡ []
  workers : (ran core run).workers ≡ core.workers
  published : (ran core run).published ≡ core.published
  orderly : AreOrderly core run

module _ (n : ℕ) (place : ℕ → ℕ) (core : CoreState) (past : Past) (earlier : List ControlEntry) (c : ℕ) (ready : Ready n place core past earlier) (opened : is_opened core c ≡ true) where
  abbrev x : Connection
  x = connection_at core c

  -- of who neither left nor was rejected
  module _ (there : list_any (leaves c) earlier ≡ false) (welcome : list_any (rejects c) earlier ≡ false) where
    rests : x ≡ at_rest x.worker x.version x.seat x.lagged
    rests =
        let sits = ready.sits c in
        ap (λ o. record x { waiting = o }) sits.waiting ∙ ap (λ o. record x { waiting = None; decided = o }) sits.decided
        ∙ ap (λ (b : Bool). record x { waiting = None; decided = None; rejected = b }) (sits.welcome welcome)
        ∙ ap (λ (leave : LeaveStage). record x { waiting = None; decided = None; rejected = false; leave = leave }) (sits.there there).0
        ∙ ap (λ (o : Option ℕ). record x { waiting = None; decided = None; rejected = false; leave = leaving.Stays; closed = o }) (sits.there there).1

    may_ask : IsOpen x
    may_ask = record { closed = ((ready.sits c).there there).1; waiting = (ready.sits c).waiting; decided = (ready.sits c).decided }

    versioned : (version : Option ℕ) → IfSome version (λ v. v < 2 ^ 32) → Stepped c (λ y. record y { version = reported_by version x.version }) core past (reports version c)
    versioned None fits = record {
      allowed = tt;
      moves = record { own = refl; other = λ d apart. refl; many = refl };
      workers = refl;
      published = refl;
      orderly = tt;
      follows = ready.follows;
      calm = calm_of n place core past earlier ready;
      decides = refl;
      silent = λ w. refl;
    }
    versioned (Some number) fits =
        let bytes : List ℕ = version_frame number in
        let allowed : illegal core (Frame c bytes) ≡ None = frame_allowed core core.published c bytes opened may_ask (ready.free x.worker) in
        let keep : frame_action core c bytes ≡ Keep =
        ap (λ (y : Connection). action (machine_of c y) (kind_of bytes) (payload_of bytes)) rests ∙ version_kept c x.worker x.version x.seat x.lagged number fits in
        let version : frame_version core c bytes ≡ Some number =
        ap (λ (y : Connection). (after_frame (machine_of c y) (kind_of bytes) (payload_of bytes)).version) rests ∙ version_told c x.worker x.version x.seat x.lagged number fits in
        let is : does core (Frame c bytes) ≡ record (at_connection c (λ (y : Connection). record y { version = Some number }) core) { line = up core.line } =
        ap (λ (a : Action). record (frame_step.does core c (frame_version core c bytes) a) { line = up core.line }) keep
        ∙ ap (λ (o : Option ℕ). record (frame_step.does core c o Keep) { line = up core.line }) version in
        record {
          allowed = (allowed, tt);
          moves = moves_at c (λ (y : Connection). record y { version = Some number }) core (does core (Frame c bytes)) opened (ap (λ (new : CoreState). new.connections) is);
          workers = ap (λ (new : CoreState). new.workers) is;
          published = ap (λ (new : CoreState). new.published) is;
          orderly = (((ready.sits c).there there).0, tt);
          follows = follows_quiet core (Frame c bytes) past tt ready.follows;
          calm = calm_step core (Frame c bytes) allowed (calm_of n place core past earlier ready);
          decides = refl;
          silent = λ w. refl;
        }

-- ---- a note

-- a note is no greater than this revision
abbrev IsLow : ℕ → Option ℕ → Type 0
IsLow most None = Unit {0}
IsLow most (Some revision) = revision ≤ most

note_low : (published : ℕ) (b : Bool) → IsLow published (cond b (Some published) None)
note_low published true = omega arith
note_low published false = tt

noted_connections : (core : CoreState) (w : ℕ) (revision : Option ℕ) → (tell_step.notes w revision core).connections ≡ core.connections
noted_connections core w None = refl
noted_connections core w (Some revision) = refl

notes_alike : (core : CoreState) (v w : ℕ) (revision : Option ℕ) → Alike (worker_at core w) (worker_at (tell_step.notes v revision core) w)
notes_alike core v w None = alike_itself (worker_at core w)
notes_alike core v w (Some revision) =
    changed-by Alike alike_itself core.workers v w (λ worker. record worker { told = max worker.told revision }) idle (λ x at here. record { held = refl; copies = refl; seen = refl })

notes_free : (core : CoreState) (v w most : ℕ) (revision : Option ℕ) → IsLow most revision → IsFree most (worker_at core w) → IsFree most (worker_at (tell_step.notes v revision core) w)
notes_free core v w most None low = λ free. free
notes_free core v w most (Some revision) low =
    changed-by (λ old new. IsFree most old → IsFree most new) (λ x free. free) core.workers v w (λ worker. record worker { told = max worker.told revision }) idle
    (λ x at here free. let before = free.told in record { held = free.held; copies = free.copies; told = omega (arith, before, low) })

-- a note that comes with an accepted edit is allowed where that is published
note_allowed : (core : CoreState) (m : Mark) (seat : Option Seat) (wire : List ℕ) → revision_of m ≤ core.published
    → first_that_stands (note_cases core (Some (record { mark = m; seat = seat; wire = wire })) (cond (is_accepted m) (Some core.published) None)) ≡ None
note_allowed core (marks.Accepted revision) seat wire low =
    passed (nat_lt core.published revision) _ _ (le-ltb core.published revision low) (passed (nat_lt core.published core.published) _ _ (le-ltb core.published core.published (omega arith)) refl)
note_allowed core others seat wire low = refl

mark_low : (accepted : List Edit) (v : Verdict) → revision_of (mark (length accepted + 1) v) ≤ length (accepted ++ edits_of v)
mark_low accepted (verdicts.Accepted edit) = let more = length-append accepted (edit ∷ []) in omega (arith, more)
mark_low accepted others = omega arith

-- ---- a command of a frame

-- what the payload of a command is that comes after a login
abbrev heard_later : ℕ → List ℕ → Heard Asked
heard_later kind payload = cond (list_any (λ known. known == kind) commands_after_login) (command_heard kind payload) Malformed

heard_with : (one other : Option ℕ) (kind : ℕ) (payload : List ℕ) (what : Asked) → frame_heard one kind payload ≡ Message what → (kind ≡ AUTHENTICATE → one ≡ other) → frame_heard other kind payload ≡ Message what
heard_with one other kind payload what is same = from (kind == AUTHENTICATE) refl
  where
    from : (b : Bool) → (kind == AUTHENTICATE) ≡ b → frame_heard other kind payload ≡ Message what
    from true login = subst (λ (o : Option ℕ). frame_heard o kind payload ≡ Message what) (same (eqb-true kind AUTHENTICATE login)) is
    from false apart =
        ap (λ (b : Bool). cond b (login_heard other payload) (heard_later kind payload)) apart
        ∙ sym (ap (λ (b : Bool). cond b (login_heard one payload) (heard_later kind payload)) apart) ∙ is

reported_so : (version before : Option ℕ) → (version ≡ None → before ≡ None) → version ≡ reported_by version before
reported_so None before none = sym (none refl)
reported_so (Some number) before none = refl

module _ (n : ℕ) (place : ℕ → ℕ) (core : CoreState) (past : Past) (earlier : List ControlEntry) (entry : ControlEntry) (ready : Ready n place core past earlier)
    (says : entry.verdict ≡ mark_on past entry) (asked : IsAsked past earlier entry) (there : list_any (leaves entry.connection) earlier ≡ false) (opened : is_opened core entry.connection ≡ true) where
  abbrev c : ℕ
  c = entry.connection

  abbrev own : Connection
  own = connection_at core c

  own_session : session_in past c ≡ option_map (λ (seat : Seat). seat.session) own.seat
  own_session = ready.follows.sessions c ∙ ap (λ (o : Option Reply). option_map (λ (seat : Seat). seat.session) (option_or (seat_given o) own.seat)) (ready.sits c).decided

  module _ (bytes : List ℕ) (framed : entry.frame ≡ Some bytes) (fits : IfSome entry.version (λ v. v < 2 ^ 32)) where
    command : IsCommand past earlier entry bytes
    command = asked.command bytes framed

    abbrev what : Asked
    what = command.what

    abbrev version : Option ℕ
    version = reported_by entry.version own.version

    abbrev front : List Step
    front = reports entry.version c

    abbrev one : CoreState
    one = ran core front

    first : Stepped c (λ y. record y { version = version }) core past front
    first = versioned n place core past earlier c ready opened there command.welcome entry.version fits

    one_is : connection_at one c ≡ at_rest own.worker version own.seat own.lagged
    one_is = first.moves.own ∙ ap (λ (y : Connection). record y { version = version }) (rests n place core past earlier c ready opened there command.welcome)

    heard : frame_heard version (kind_of bytes) (payload_of bytes) ≡ Message what
    heard = heard_with entry.version version (kind_of bytes) (payload_of bytes) what command.asks
        (λ login. reported_so entry.version own.version (λ none. (ready.sits c).no_version (command.no_version login none)))

    seated : (kind_of bytes ≡ AUTHENTICATE) ⊎ (is_some own.seat ≡ true)
    seated = from own.seat refl
      where
        from : (o : Option Seat) → own.seat ≡ o → (kind_of bytes ≡ AUTHENTICATE) ⊎ (is_some own.seat ≡ true)
        from None none = inl (command.logs_in (own_session ∙ ap (λ (o : Option Seat). option_map (λ (seat : Seat). seat.session) o) none))
        from (Some seat) some = inr (ap (λ (o : Option Seat). is_some o) some)

    asks : frame_action one c bytes ≡ Ask (command_by c (at_rest own.worker version own.seat own.lagged) what)
    asks =
        ap (λ (y : Connection). action (machine_of c y) (kind_of bytes) (payload_of bytes)) one_is
        ∙ frame_asks c own.worker version own.seat own.lagged (kind_of bytes) (payload_of bytes) what heard seated

    opened_one : is_opened one c ≡ true
    opened_one = still_opened core one c first.moves.many opened

    frame_may : illegal one (Frame c bytes) ≡ None
    frame_may = frame_allowed one core.published c bytes opened_one
        (record { closed = ap (λ (y : Connection). y.closed) one_is; waiting = ap (λ (y : Connection). y.waiting) one_is; decided = ap (λ (y : Connection). y.decided) one_is })
        (subst (λ workers. IsFree core.published (slice_index_or workers (connection_at one c).worker idle)) (sym first.workers) (ready.free (connection_at one c).worker))

    -- ---- the frame is taken

    abbrev two : CoreState
    two = does one (Frame c bytes)

    two_is : two ≡ record (at_connection c (asking what) one) { line = up one.line }
    two_is = ap (λ (a : Action). record (frame_step.does one c (frame_version one c bytes) a) { line = up one.line }) asks

    moves_two : Moves c (asking what) one two
    moves_two = moves_at c (asking what) one two opened_one (ap (λ (new : CoreState). new.connections) two_is)

    waits : connection_at two c ≡ asking what (at_rest own.worker version own.seat own.lagged)
    waits = moves_two.own ∙ ap (asking what) one_is

    opened_two : is_opened two c ≡ true
    opened_two = still_opened one two c moves_two.many opened_one

    next : next_command (connection_at two c) ≡ Some what
    next = ap (λ (y : Connection). next_command y) waits

    edit_may : illegal two (steps.Edit c) ≡ None
    edit_may =
        passed (not (is_opened two c)) _ _ (ap not opened_two)
        (passed (is_none (next_command (connection_at two c))) _ _ (ap (λ (o : Option Asked). is_none o) next) refl)

    follows_two : Follows two past
    follows_two = follows_quiet one (Frame c bytes) past tt first.follows

    calm_two : AreCalm two
    calm_two = calm_step one (Frame c bytes) frame_may first.calm

    -- ---- it is decided

    abbrev v : Verdict
    v = verdict (current two) (session_of (connection_at two c)) what

    abbrev r : Reply
    r = edit_step.reply_to two c v

    abbrev three : CoreState
    three = does two (steps.Edit c)

    three_is : three ≡ after two c v
    three_is = does_is two past c what follows_two calm_two opened_two next

    moves_three : Moves c (λ y. answered (next_of_frame y) r y) two three
    moves_three = moves_at c (λ y. answered (next_of_frame y) r y) two three opened_two (ap (λ (new : CoreState). new.connections) three_is)

    outcome : entry.verdict ≡ mark (length two.accepted + 1) v
    outcome =
        says ∙ ap (λ (edits : List Edit). mark (length edits + 1) (verdict_on past entry)) follows_two.accepted
        ∙ ap (mark (length two.accepted + 1)) (verdict_of two past c what follows_two calm_two opened_two next entry refl asks_so)
      where
        asks_so : command_of entry.version entry.frame ≡ Message what
        asks_so = ap (command_of entry.version) framed ∙ command.asks

    is_decided : IsDecided entry (record { connection = c; what = what; outcome = mark (length two.accepted + 1) v })
    is_decided = record { connection = refl; asked = ap (command_of entry.version) framed ∙ command.asks; outcome = outcome }

    follows_three : Follows three (after_entry past entry)
    follows_three = follows_entry two past c what follows_two calm_two opened_two next entry is_decided

    -- ---- it is published and reported

    abbrev four : CoreState
    four = does three Publish

    -- the note of an edit that is accepted
    abbrev note : Option ℕ
    note = cond (is_accepted r.mark) (Some four.published) None

    abbrev five : CoreState
    five = does four (Tell c note)

    moves_four : Moves c (λ y. answered (next_of_frame y) r y) two four
    moves_four = record { own = moves_three.own; other = moves_three.other; many = moves_three.many }

    opened_four : is_opened four c ≡ true
    opened_four = still_opened two four c moves_four.many opened_two

    moves_five : Moves c told four five
    moves_five = moves_at c told four five opened_four (noted_connections (at_connection c told four) (connection_at four c).worker note)

    four_is : connection_at four c ≡ answered (Some what) r (asking what (at_rest own.worker version own.seat own.lagged))
    four_is = moves_four.own ∙ ap (λ (y : Connection). answered (next_of_frame y) r y) waits

    grown : four.published ≡ length core.accepted + length (edits_of v)
    grown =
        let same = ap (λ (edits : List Edit). length edits) (sym ready.follows.accepted ∙ follows_two.accepted) in
        let more = length-append two.accepted (edits_of v) in
        let now = ap (λ (new : CoreState). length new.accepted) three_is in
        omega (arith, same, more, now)

    low : revision_of r.mark ≤ four.published
    low = let now = ap (λ (new : CoreState). length new.accepted) three_is in let least = mark_low two.accepted v in omega (arith, now, least)

    tell_may : illegal four (Tell c note) ≡ None
    tell_may =
        passed (not (is_opened four c)) _ _ (ap not opened_four)
        (passed (is_none (connection_at four c).decided) _ _ (ap (λ (y : Connection). is_none y.decided) four_is)
        (ap (λ (y : Connection). first_that_stands (note_cases four y.decided note)) four_is ∙ note_allowed four r.mark r.seat r.wire low))

    five_is : connection_at five c ≡ told (answered (Some what) r (asking what (at_rest own.worker version own.seat own.lagged)))
    five_is = moves_five.own ∙ ap told four_is

    follows_five : Follows five (after_entry past entry)
    follows_five =
        follows_quiet four (Tell c note) (after_entry past entry) tt (follows_quiet three Publish (after_entry past entry) tt follows_three)

    abbrev reporting : Connection → Connection
    reporting y = record y { version = version }

    abbrev answering : Connection → Connection
    answering y = answered (next_of_frame y) r y

    abbrev changing : Connection → Connection
    changing y = told (answering (asking what (reporting y)))

    all_moves : Moves c changing core five
    all_moves =
        moves_on c (λ y. answering (asking what (reporting y))) told core four five
        (moves_on c (λ y. asking what (reporting y)) answering core two four (moves_on c reporting (asking what) core one two first.moves moves_two) moves_four) moves_five

    sits_five : Sits (earlier ++ entry ∷ []) c (connection_at five c)
    sits_five = record {
      waiting = ap (λ (y : Connection). y.waiting) five_is;
      decided = ap (λ (y : Connection). y.decided) five_is;
      there = λ none. (ap (λ (y : Connection). y.leave) five_is, ap (λ (y : Connection). y.closed) five_is);
      welcome = λ none.
          ap (λ (y : Connection). y.rejected) five_is ∙ ap (λ m. is_rejected m) (sym outcome)
          ∙ own_test entry c (is_rejected entry.verdict) refl (neither (rejects c) earlier entry none).1;
      no_version = λ none.
          let here = neither (has_version c) earlier entry none in
          let unreported : entry.version ≡ None = none_there entry.version (own_test entry c (is_some entry.version) refl here.1) in
          ap (λ (y : Connection). y.version) five_is ∙ ap (λ (o : Option ℕ). reported_by o own.version) unreported ∙ (ready.sits c).no_version here.0;
      seated = λ some.
          ap (λ (y : Connection). y.rejected) five_is
          ∙ welcomed (current two) own.seat (session_of (connection_at two c)) what (length two.accepted + 1) (ap (λ (y : Connection). session_of y) waits)
          (sym (ap (λ (y : Connection). is_some y.seat) five_is) ∙ some);
    }

    workers_four : four.workers ≡ core.workers
    workers_four = ap (λ (new : CoreState). new.workers) three_is ∙ ap (λ (new : CoreState). new.workers) two_is ∙ first.workers

    kept_five : Keeps four five
    kept_five = notes_keep (at_connection c told four) (connection_at four c).worker note

    alike_five : (w : ℕ) → Alike (worker_at core w) (worker_at five w)
    alike_five w =
        subst (λ (workers : List WorkerState). Alike (slice_index_or workers w idle) (worker_at five w)) workers_four
        (notes_alike (at_connection c told four) (connection_at four c).worker w note)

    free_four : (w : ℕ) → IsFree four.published (worker_at four w)
    free_four w =
        let more = grown in
        let before = ready.published in
        subst (λ (workers : List WorkerState). IsFree four.published (slice_index_or workers w idle)) (sym workers_four)
        (free_more core.published four.published (worker_at core w) (omega (arith, more, before)) (ready.free w))

    free_five : (w : ℕ) → IsFree five.published (worker_at five w)
    free_five w =
        subst (λ (most : ℕ). IsFree most (worker_at five w)) (sym kept_five.1)
        (notes_free (at_connection c told four) (connection_at four c).worker w four.published note (note_low four.published (is_accepted r.mark)) (free_four w))

    ready_five : Ready n place five (after_entry past entry) (earlier ++ entry ∷ [])
    ready_five =
        settles n place core five (after_entry past entry) (earlier ++ entry ∷ []) c changing (λ d. sits_on earlier entry d (connection_at core d) (ready.sits d)) ready.at ready.many free_five all_moves follows_five (kept_five.1 ∙ sym (ap (λ (edits : List Edit). length edits) kept_five.0))
        sits_five (ap (λ (y : Connection). y.worker) five_is ∙ ready.at c opened)

    abbrev back : List Step
    back = Frame c bytes ∷ steps.Edit c ∷ Publish ∷ Tell c note ∷ []

    abbrev of_entry : Asked → Decided
    of_entry asked = record { connection = c; what = asked; outcome = mark (length two.accepted + 1) (verdict (current two) (session_of (connection_at two c)) asked) }

    decides_back : gathered decided one back ≡ of_entry what ∷ []
    decides_back = ap (λ (o : Option Asked). option_to_list (option_map of_entry o) ++ []) next

    orderly_back : AreOrderly one back
    orderly_back = (
      ap (λ (y : Connection). y.leave) one_is,
      (
        (λ none. absurd (none_some (next_of_frame (connection_at two c)) what none (ap (λ (y : Connection). next_of_frame y) waits))),
        (
          tt,
          ((λ has. noted_so (is_accepted r.mark) (sym (ap (λ (y : Connection). has_edit y.decided) four_is) ∙ has)), tt),
        ),
      ),
    )
      where
        noted_so : (b : Bool) → b ≡ true → is_some (cond b (Some four.published) None) ≡ true
        noted_so b is = ap (λ (b : Bool). is_some (cond b (Some four.published) None)) is

    pub done_frame : Done n place core past earlier entry
    done_frame = record {
      steps = front ++ back;
      allowed = run_joined core front back first.allowed (frame_may, (edit_may, (refl, (tell_may, tt))));
      ready = subst (λ (new : CoreState). Ready n place new (after_entry past entry) (earlier ++ entry ∷ [])) (sym (ran_joined core front back)) ready_five;
      decides = subst (AllZip IsDecided (entry ∷ []))
          (sym (gathered_joined decided core front back ∙ ap (λ (ones : List Decided). ones ++ gathered decided one back) first.decides ∙ decides_back))
          (is_decided, tt);
      silent = λ w. gathered_joined (routed w) core front back ∙ ap (λ ones. ones ++ []) (first.silent w);
      orderly = orderly_joined core front back first.orderly orderly_back;
      crew = ap (λ (new : CoreState). length new.workers) (ran_joined core front back) ∙ as_many four (Tell c note) ∙ ap (λ (workers : List WorkerState). length workers) workers_four;
      alike = λ w. subst (λ (new : CoreState). Alike (worker_at core w) (worker_at new w)) (sym (ran_joined core front back)) (alike_five w);
    }
