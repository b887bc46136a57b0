-- A connection that ends leaves a core in which nothing is underway, and so does each control entry.
use Rattle.mum_recording_laws.proofs.Common.{◌≡◌, ℕ, ◌+◌, ◌==◌, ◌&&◌, ◌^◌, ◌<◌, Bool, true, false, List, [], ◌∷◌, ◌++◌, length, length-append, Option, Some, None, refl, sym, ap, subst, ◌∙◌, arith, IfSome, is_none, is_some, not, option_to_list, slice_index_or, AllZip, list_any, option_map, eq-eqb, false≢true, ControlEntry, Close, Frame, Publish, Tell, Leave, mark, edits_of, verdict, Asked, User, Message, Edit, Verdict, Connection, LeaveStage, Reply, answered, closed_at, next_command, next_of_frame, session_of, CoreState, connection_at, current, is_opened, up, worker_at, WorkerState, idle, gathered, does, illegal, after_entry, mark_on, verdict_on, Past, IsAsked, has_version, leaves, rejects, Decided, IsDecided, command_of, decided}
use Rattle.mum_recording_laws.proofs.{Commanding.done_frame, Done.Done, Following.Follows, Following.after, Following.does_is, Following.follows_entry, Following.follows_quiet, Following.verdict_of, Moving.Alike, Moving.IsFree, Moving.Moves, Moving.alike_itself, Moving.free_more, Moving.moves_at, Moving.moves_on, Moving.passed, Moving.still_opened, Resting.Ready, Resting.Sits, Resting.calm_of, Resting.neither, Resting.settles, Resting.sits_on, Sitting.AreCalm, Sitting.calm_step}
use Rattle.mum_base.specs.declared.number.Cause.TheVariants as causes
use Rattle.mum_record.specs.declared.step.Step.TheVariants as steps
use Rattle.mum_core.specs.declared.connection.Leave.TheVariants as leaving
use Rattle.mum_core.specs.steps.Edit as edit_step

module _ (n : ℕ) (place : ℕ → ℕ) (core : CoreState) (past : Past) (earlier : List ControlEntry) (entry : ControlEntry) (ready : Ready n place core past earlier)
    (says : entry.verdict ≡ mark_on past entry) (asked : IsAsked past earlier entry) (there : list_any (leaves entry.connection) earlier ≡ false) (opened : is_opened core entry.connection ≡ true) where
  abbrev c : ℕ
  c = entry.connection

  abbrev own : Connection
  own = connection_at core c

  -- ---- the leave of a connection that ended

  module _ (ended : entry.frame ≡ None) where
    abbrev silent_one : Connection
    silent_one = record own { waiting = None; decided = None; leave = leaving.Stays; closed = None }

    own_is : own ≡ silent_one
    own_is =
        let sits = ready.sits c in
        ap (λ o. record own { waiting = o }) sits.waiting ∙ ap (λ o. record own { waiting = None; decided = o }) sits.decided
        ∙ ap (λ (leave : LeaveStage). record own { waiting = None; decided = None; leave = leave }) (sits.there there).0
        ∙ ap (λ (o : Option ℕ). record own { waiting = None; decided = None; leave = leaving.Stays; closed = o }) (sits.there there).1

    close_may : illegal core (Close c causes.End) ≡ None
    close_may =
        passed (not (is_opened core c)) _ _ (ap not opened)
        (passed (is_some own.closed) _ _ (ap (λ (o : Option ℕ). is_some o) ((ready.sits c).there there).1) refl)

    abbrev shut : CoreState
    shut = does core (Close c causes.End)

    moves_shut : Moves c (closed_at (up core.line)) core shut
    moves_shut = moves_at c (closed_at (up core.line)) core shut opened refl

    shut_is : connection_at shut c ≡ closed_at (up core.line) silent_one
    shut_is = moves_shut.own ∙ ap (closed_at (up core.line)) own_is

    opened_shut : is_opened shut c ≡ true
    opened_shut = still_opened core shut c moves_shut.many opened

    next_shut : next_command (connection_at shut c) ≡ Some (User Leave)
    next_shut = ap (λ (y : Connection). next_command y) shut_is

    leave_may : illegal shut (steps.Edit c) ≡ None
    leave_may =
        passed (not (is_opened shut c)) _ _ (ap not opened_shut)
        (passed (is_none (next_command (connection_at shut c))) _ _ (ap (λ (o : Option Asked). is_none o) next_shut) refl)

    follows_shut : Follows shut past
    follows_shut = follows_quiet core (Close c causes.End) past tt ready.follows

    calm_shut : AreCalm shut
    calm_shut = calm_step core (Close c causes.End) close_may (calm_of n place core past earlier ready)

    abbrev u : Verdict
    u = verdict (current shut) (session_of (connection_at shut c)) (User Leave)

    abbrev answer : Reply
    answer = edit_step.reply_to shut c u

    abbrev gone : CoreState
    gone = does shut (steps.Edit c)

    gone_is : gone ≡ after shut c u
    gone_is = does_is shut past c (User Leave) follows_shut calm_shut opened_shut next_shut

    asks_leave : command_of entry.version entry.frame ≡ Message (User Leave)
    asks_leave = ap (command_of entry.version) ended

    leave_outcome : entry.verdict ≡ mark (length shut.accepted + 1) u
    leave_outcome =
        says ∙ ap (λ (edits : List Edit). mark (length edits + 1) (verdict_on past entry)) follows_shut.accepted
        ∙ ap (mark (length shut.accepted + 1)) (verdict_of shut past c (User Leave) follows_shut calm_shut opened_shut next_shut entry refl asks_leave)

    leave_decided : IsDecided entry (record { connection = c; what = User Leave; outcome = mark (length shut.accepted + 1) u })
    leave_decided = record { connection = refl; asked = asks_leave; outcome = leave_outcome }

    abbrev last : CoreState
    last = does gone Publish

    moves_last : Moves c (λ y. answered (next_of_frame y) answer y) shut last
    moves_last = moves_at c (λ y. answered (next_of_frame y) answer y) shut last opened_shut (ap (λ (new : CoreState). new.connections) gone_is)

    last_is : connection_at last c ≡ answered None answer (closed_at (up core.line) silent_one)
    last_is = moves_last.own ∙ ap (λ (y : Connection). answered (next_of_frame y) answer y) shut_is

    has_left : ((c == c) && is_none entry.frame) ≡ true
    has_left = ap (λ (b : Bool). b && is_none entry.frame) (eq-eqb c c refl) ∙ ap (λ (o : Option (List ℕ)). is_none o) ended

    sits_last : Sits (earlier ++ entry ∷ []) c (connection_at last c)
    sits_last = record {
      waiting = ap (λ (y : Connection). y.waiting) last_is;
      decided = ap (λ (y : Connection). y.decided) last_is;
      there = λ none. absurd (false≢true (sym (neither (leaves c) earlier entry none).1 ∙ has_left));
      welcome = λ none. ap (λ (y : Connection). y.rejected) last_is ∙ (ready.sits c).welcome (neither (rejects c) earlier entry none).0;
      no_version = λ none. ap (λ (y : Connection). y.version) last_is ∙ (ready.sits c).no_version (neither (has_version c) earlier entry none).0;
      seated = λ some. ap (λ (y : Connection). y.rejected) last_is ∙ (ready.sits c).seated (sym (ap (λ (y : Connection). is_some y.seat) last_is) ∙ some);
    }

    abbrev answering_leave : Connection → Connection
    answering_leave y = answered (next_of_frame y) answer y

    abbrev leaving_so : Connection → Connection
    leaving_so y = answering_leave (closed_at (up core.line) y)

    leave_moves : Moves c leaving_so core last
    leave_moves = moves_on c (closed_at (up core.line)) answering_leave core shut last moves_shut moves_last

    workers_last : last.workers ≡ core.workers
    workers_last = ap (λ (new : CoreState). new.workers) gone_is

    free_last : (w : ℕ) → IsFree last.published (worker_at last w)
    free_last w =
        let now = ap (λ (new : CoreState). length new.accepted) gone_is in
        let more = length-append core.accepted (edits_of u) in
        let before = ready.published in
        subst (λ (workers : List WorkerState). IsFree last.published (slice_index_or workers w idle)) (sym workers_last)
        (free_more core.published last.published (worker_at core w) (omega (arith, now, more, before)) (ready.free w))

    ready_last : Ready n place last (after_entry past entry) (earlier ++ entry ∷ [])
    ready_last =
        settles n place core last (after_entry past entry) (earlier ++ entry ∷ []) c leaving_so (λ d. sits_on earlier entry d (connection_at core d) (ready.sits d)) ready.at ready.many free_last leave_moves
        (follows_quiet gone Publish (after_entry past entry) tt (follows_entry shut past c (User Leave) follows_shut calm_shut opened_shut next_shut entry leave_decided)) refl
        sits_last (ap (λ (y : Connection). y.worker) last_is ∙ ready.at c opened)

    abbrev of_leave : Asked → Decided
    of_leave asked = record { connection = c; what = asked; outcome = mark (length shut.accepted + 1) (verdict (current shut) (session_of (connection_at shut c)) asked) }

    leave_decides : gathered decided core (Close c causes.End ∷ steps.Edit c ∷ Publish ∷ []) ≡ of_leave (User Leave) ∷ []
    leave_decides = ap (λ (o : Option Asked). option_to_list (option_map of_leave o) ++ []) next_shut

    pub done_leave : Done n place core past earlier entry
    done_leave = record {
      steps = Close c causes.End ∷ steps.Edit c ∷ Publish ∷ [];
      allowed = (close_may, (leave_may, (refl, tt)));
      ready = ready_last;
      decides = subst (AllZip IsDecided (entry ∷ [])) (sym leave_decides) (leave_decided, tt);
      silent = λ w. refl;
      orderly = ((ready.free own.worker).held, ((λ none. ap (λ (y : Connection). is_some y.closed) shut_is), (tt, tt)));
      crew = ap (λ (workers : List WorkerState). length workers) workers_last;
      alike = λ w. subst (λ (workers : List WorkerState). Alike (worker_at core w) (slice_index_or workers w idle)) (sym workers_last) (alike_itself (worker_at core w));
    }

-- an entry that could be asked for is decided
pub done : (n : ℕ) (place : ℕ → ℕ) (core : CoreState) (past : Past) (earlier : List ControlEntry) (entry : ControlEntry) → Ready n place core past earlier → entry.verdict ≡ mark_on past entry
    → IsAsked past earlier entry → list_any (leaves entry.connection) earlier ≡ false → is_opened core entry.connection ≡ true → IfSome entry.version (λ v. v < 2 ^ 32) → Done n place core past earlier entry
done n place core past earlier entry ready says asked there opened fits = from entry.frame refl
  where
    from : (o : Option (List ℕ)) → entry.frame ≡ o → Done n place core past earlier entry
    from None ended = done_leave n place core past earlier entry ready says asked there opened ended
    from (Some bytes) framed = done_frame n place core past earlier entry ready says asked there opened bytes framed fits
