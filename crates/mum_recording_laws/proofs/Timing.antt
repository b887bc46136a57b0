-- In orderly runs a worker looks at no revision before the logins of its connections.
use Rattle.mum_recording_laws.proofs.Common.{◌≡◌, ℕ, suc, ◌+◌, ◌≤◌, ◌<◌, max, not, Bool, true, false, List, length, Option, Some, None, refl, sym, ap, subst, ◌∙◌, arith, inl, inr, ⊤, IfSome, is_none, is_some, nat_lt, slice_index_or, option_map, option_or, cases_eq, false≢true, ltb-false, ltb-true, get_or_past, Journal, Step, Close, Frame, Tell, mark, Action, Ask, Keep, Asked, Edit, Verdict, Accepted, Connection, Reply, Seat, answered, fresh, is_accepted, next_of_frame, seat_given, session_of, told, first_that_stands, CoreState, connection_at, is_opened, worker_at, changed_at, seat_of, does, frame_action, frame_version, illegal, WorkerState, idle, edit_revision, has_edit, note_cases, changed_same, Change, at_place, change_by, change_of, change_to, conn, each_step, place_stays, goes_on, none_stands, not_false, past_at, session_in, AreAsked, IsOrderly}
use Rattle.mum_core.specs.Connection.{revision_of}
use Rattle.mum_recording_laws.proofs.{Following.Follows, Following.IsQuiet, Holding.as_many, Options.none_some, Options.same_some, Pasts.LoggedAt, Pasts.logged_by, Pasts.logged_more, Sitting.changed_here}
use Rattle.mum_record.specs.declared.step.Step.TheVariants as steps
use Rattle.mum_core.specs.steps.Edit as edit_step

-- ---- what a step leaves of seats and of replies

-- the step does not send its reply to the connection at this place
abbrev pub IsNotTold : Step → ℕ → Type 0
IsNotTold (Tell c revision) i = c ≡ i + 1 → ⊥
IsNotTold others i = ⊤

-- nor does it decide a command of it
abbrev pub IsNotBy : Step → ℕ → Type 0
IsNotBy (steps.Edit c) i = c ≡ i + 1 → ⊥
IsNotBy others i = ⊤

abbrev KeepsSeat : Option Change → ℕ → Connection → Type 0
KeepsSeat change i x = IfSome change (λ one. one.0 ≡ i + 1 → (one.1 x).seat ≡ x.seat)

frame_keeps : (c i : ℕ) (version : Option ℕ) (a : Action) (x : Connection) → KeepsSeat (change_by c version a) i x
frame_keeps c i version (Ask command) x = λ at. refl
frame_keeps c i version Keep x = λ at. refl
frame_keeps c i version others x = tt

answered_seat : (o : Option Asked) (reply : Reply) (x : Connection) → (answered o reply x).seat ≡ x.seat
answered_seat None reply x = refl
answered_seat (Some what) reply x = refl

edit_keeps : (core : CoreState) (c i : ℕ) (o : Option Verdict) (x : Connection) → KeepsSeat (option_map (change_to core c) o) i x
edit_keeps core c i None x = tt
edit_keeps core c i (Some one) x = λ at. answered_seat (next_of_frame x) (edit_step.reply_to core c one) x

seats_keep : (core : CoreState) (step : Step) (i : ℕ) → IsNotTold step i → KeepsSeat (change_of core step) i (conn core i)
seats_keep core (Frame c bytes) i other = frame_keeps c i (frame_version core c bytes) (frame_action core c bytes) (conn core i)
seats_keep core (steps.Edit c) i other = edit_keeps core c i (edit_step.decision core c) (conn core i)
seats_keep core (Tell c revision) i other = λ at. absurd (other at)
seats_keep core (Close c cause) i other = λ at. refl
seats_keep core others i other = tt

seat_kept : (core : CoreState) (step : Step) (i : ℕ) → IsNotTold step i → (conn (does core step) i).seat ≡ (conn core i).seat
seat_kept core step i other = each_step (λ (old new : Connection). new.seat ≡ old.seat) (λ x. refl) (λ x. refl) core step i (λ w past. refl) (seats_keep core step i other)

abbrev KeepsReply : Option Change → ℕ → Connection → Type 0
KeepsReply change i x = IfSome change (λ one. one.0 ≡ i + 1 → (one.1 x).decided ≡ x.decided)

frame_replies : (c i : ℕ) (version : Option ℕ) (a : Action) (x : Connection) → KeepsReply (change_by c version a) i x
frame_replies c i version (Ask command) x = λ at. refl
frame_replies c i version Keep x = λ at. refl
frame_replies c i version others x = tt

edit_replies : (core : CoreState) (c i : ℕ) (o : Option Verdict) (x : Connection) → (c ≡ i + 1 → ⊥) → KeepsReply (option_map (change_to core c) o) i x
edit_replies core c i None x apart = tt
edit_replies core c i (Some one) x apart = λ at. absurd (apart at)

replies_keep : (core : CoreState) (step : Step) (i : ℕ) → IsNotTold step i → IsNotBy step i → KeepsReply (change_of core step) i (conn core i)
replies_keep core (Frame c bytes) i told by = frame_replies c i (frame_version core c bytes) (frame_action core c bytes) (conn core i)
replies_keep core (steps.Edit c) i told by = edit_replies core c i (edit_step.decision core c) (conn core i) by
replies_keep core (Tell c revision) i told by = λ at. absurd (told at)
replies_keep core (Close c cause) i told by = λ at. refl
replies_keep core others i told by = tt

reply_kept : (core : CoreState) (step : Step) (i : ℕ) → IsNotTold step i → IsNotBy step i → (conn (does core step) i).decided ≡ (conn core i).decided
reply_kept core step i told by = each_step (λ (old new : Connection). new.decided ≡ old.decided) (λ x. refl) (λ x. refl) core step i (λ w past. refl) (replies_keep core step i told by)

told_at : (core : CoreState) (c : ℕ) (revision : Option ℕ) → is_opened core c ≡ true → connection_at (does core (Tell c revision)) c ≡ told (connection_at core c)
told_at core c None opened = changed_here core c told opened
told_at core c (Some revision) opened = changed_here core c told opened

told_now : (core : CoreState) (c i : ℕ) (revision : Option ℕ) → c ≡ i + 1 → is_opened core c ≡ true → conn (does core (Tell c revision)) i ≡ told (conn core i)
told_now core c i revision at opened = sym (at_place (does core (Tell c revision)) c i at) ∙ told_at core c revision opened ∙ ap told (at_place core c i at)

-- whoever has a seat is there
seated_there : (core : CoreState) (i : ℕ) (seat : Seat) → (conn core i).seat ≡ Some seat → i < length core.connections
seated_there core i seat is = from (nat_lt i (length core.connections)) refl
  where
    from : (b : Bool) → nat_lt i (length core.connections) ≡ b → i < length core.connections
    from true low = ltb-true i (length core.connections) low
    from false high =
        absurd (none_some (fresh 0).seat seat refl
        (sym (ap (λ (x : Connection). x.seat) (get_or_past core.connections i (fresh 0) (ltb-false i (length core.connections) high))) ∙ is))

-- ---- what is known of seats and of replies

module _ (journal : Journal) (asked : AreAsked journal) where
  pub record Timed (core : CoreState) : Type 0 where
    pub seats : (i : ℕ) (seat : Seat) → (conn core i).seat ≡ Some seat → (conn core i).worker < length core.workers
        → LoggedAt journal asked (i + 1) (worker_at core (conn core i).worker).told
    pub due : (i : ℕ) (reply : Reply) (seat : Seat) → (conn core i).decided ≡ Some reply → reply.seat ≡ Some seat
        → (is_accepted reply.mark ≡ true) × LoggedAt journal asked (i + 1) (revision_of reply.mark)

  -- a seat that was there before the step
  seat_before : (core : CoreState) (step : Step) (i : ℕ) (seat : Seat) → illegal core step ≡ None → Timed core → (conn core i).seat ≡ Some seat
      → (conn (does core step) i).worker < length (does core step).workers → LoggedAt journal asked (i + 1) (worker_at (does core step) (conn (does core step) i).worker).told
  seat_before core step i seat allowed timed is inside =
      let stays = place_stays core step i (seated_there core i seat is) in
      let many = as_many core step in
      let same = stays.1 in
      let further = (goes_on core step (conn core i).worker allowed).1 in
      subst (λ (w : ℕ). LoggedAt journal asked (i + 1) (worker_at (does core step) w).told) (sym stays.1)
      (logged_more journal asked (i + 1) (worker_at core (conn core i).worker).told (worker_at (does core step) (conn core i).worker).told further
      (timed.seats i seat is (omega (arith, inside, many, same))))

  pub timed_seat : (core : CoreState) (step : Step) (i : ℕ) (seat : Seat) → illegal core step ≡ None → Timed core → IsNotTold step i → (conn (does core step) i).seat ≡ Some seat
      → (conn (does core step) i).worker < length (does core step).workers → LoggedAt journal asked (i + 1) (worker_at (does core step) (conn (does core step) i).worker).told
  timed_seat core step i seat allowed timed other is inside = seat_before core step i seat allowed timed (sym (seat_kept core step i other) ∙ is) inside

  -- what a note says is sent to the worker
  note_told : (core : CoreState) (c w least : ℕ) (d : Option Reply) (revision : Option ℕ) → (connection_at core c).decided ≡ d → first_that_stands (note_cases core d revision) ≡ None
      → is_some revision ≡ true → edit_revision d ≡ least → (connection_at core c).worker ≡ w → w < length core.workers → least ≤ (worker_at (does core (Tell c revision)) w).told
  note_told core c w least d None at allowed some is own inside = absurd (false≢true some)
  note_told core c w least d (Some revision) at allowed some is own inside =
      let first = none_stands (not (has_edit d)) _ _ allowed in
      let second = none_stands (nat_lt revision (edit_revision d)) _ _ first.1 in
      let low : edit_revision d ≤ revision = ltb-false revision (edit_revision d) second.0 in
      let new : worker_at (does core (Tell c (Some revision))) w ≡ record (worker_at core w) { told = max (worker_at core w).told revision } =
      ap (λ (v : ℕ). slice_index_or (changed_at v (λ (worker : WorkerState). record worker { told = max worker.told revision }) core.workers) w idle) own
      ∙ changed_same core.workers w (λ (worker : WorkerState). record worker { told = max worker.told revision }) idle inside in
      let now = ap (λ (worker : WorkerState). worker.told) new in
      omega (arith, low, is, now)

  seat_told : (core : CoreState) (c i : ℕ) (revision : Option ℕ) (seat : Seat) → illegal core (Tell c revision) ≡ None → IsOrderly core (Tell c revision) → Timed core → c ≡ i + 1
      → (conn (does core (Tell c revision)) i).seat ≡ Some seat → (conn (does core (Tell c revision)) i).worker < length (does core (Tell c revision)).workers
      → LoggedAt journal asked (i + 1) (worker_at (does core (Tell c revision)) (conn (does core (Tell c revision)) i).worker).told
  seat_told core c i revision seat allowed orderly timed at is inside = from (conn core i).decided refl
    where
      opened : is_opened core c ≡ true
      opened = not_false (is_opened core c) (none_stands (not (is_opened core c)) _ _ allowed).0

      noted : first_that_stands (note_cases core (connection_at core c).decided revision) ≡ None
      noted = (none_stands (is_none (connection_at core c).decided) _ _ (none_stands (not (is_opened core c)) _ _ allowed).1).1

      now : conn (does core (Tell c revision)) i ≡ told (conn core i)
      now = told_now core c i revision at opened

      here : connection_at core c ≡ conn core i
      here = at_place core c i at

      still : (conn core i).seat ≡ Some seat → LoggedAt journal asked (i + 1) (worker_at (does core (Tell c revision)) (conn (does core (Tell c revision)) i).worker).told
      still before = seat_before core (Tell c revision) i seat allowed timed before inside

      given : (d : Option Reply) → (conn core i).decided ≡ d → option_or (seat_given d) (conn core i).seat ≡ Some seat
      given d due = sym (ap (λ (o : Option Reply). option_or (seat_given o) (conn core i).seat) due) ∙ sym (ap (λ (x : Connection). x.seat) now) ∙ is

      by_seat : (reply : Reply) → (conn core i).decided ≡ Some reply → (o : Option Seat) → reply.seat ≡ o
          → LoggedAt journal asked (i + 1) (worker_at (does core (Tell c revision)) (conn (does core (Tell c revision)) i).worker).told
      by_seat reply due None none = still (sym (ap (λ (o : Option Seat). option_or o (conn core i).seat) none) ∙ given (Some reply) due)
      by_seat reply due (Some own) some =
          let known = timed.due i reply own due some in
          let at_c : (connection_at core c).decided ≡ Some reply = ap (λ (x : Connection). x.decided) here ∙ due in
          let many = as_many core (Tell c revision) in
          let new_worker : (conn (does core (Tell c revision)) i).worker ≡ (conn core i).worker = ap (λ (x : Connection). x.worker) now in
          subst (λ (w : ℕ). LoggedAt journal asked (i + 1) (worker_at (does core (Tell c revision)) w).told) (sym new_worker)
          (logged_more journal asked (i + 1) (revision_of reply.mark) (worker_at (does core (Tell c revision)) (conn core i).worker).told
          (note_told core c (conn core i).worker (revision_of reply.mark) (Some reply) revision at_c
          (subst (λ (d : Option Reply). first_that_stands (note_cases core d revision) ≡ None) at_c noted)
          (orderly (ap (λ (d : Option Reply). has_edit d) at_c ∙ known.0)) refl (ap (λ (x : Connection). x.worker) here) (omega (arith, inside, many, new_worker))) known.1)

      from : (d : Option Reply) → (conn core i).decided ≡ d → LoggedAt journal asked (i + 1) (worker_at (does core (Tell c revision)) (conn (does core (Tell c revision)) i).worker).told
      from None due = still (given None due)
      from (Some reply) due = by_seat reply due reply.seat refl

  -- ---- steps that decide nothing

  pub due_after : (core : CoreState) (step : Step) → Timed core → (i : ℕ) → IsNotTold step i → IsNotBy step i → (reply : Reply) (seat : Seat) → (conn (does core step) i).decided ≡ Some reply
      → reply.seat ≡ Some seat → (is_accepted reply.mark ≡ true) × LoggedAt journal asked (i + 1) (revision_of reply.mark)
  due_after core step timed i told by reply seat is seated = timed.due i reply seat (sym (reply_kept core step i told by) ∙ is) seated

  told_none : (core : CoreState) (c i : ℕ) (revision : Option ℕ) (reply : Reply) → illegal core (Tell c revision) ≡ None → c ≡ i + 1 → (conn (does core (Tell c revision)) i).decided ≡ Some reply → ⊥
  told_none core c i revision reply allowed at is =
      none_some (told (conn core i)).decided reply refl
      (sym (ap (λ (x : Connection). x.decided) (told_now core c i revision at (not_false (is_opened core c) (none_stands (not (is_opened core c)) _ _ allowed).0))) ∙ is)

  pub timed_step : (core : CoreState) (step : Step) → IsQuiet step → illegal core step ≡ None → IsOrderly core step → Timed core → Timed (does core step)
  timed_step core (steps.Edit c) quiet allowed orderly timed = absurd quiet
  timed_step core (Tell c revision) quiet allowed orderly timed = record {
    seats = λ i seat is inside. elim (cases_eq c (i + 1)) [
      | inl same ↦ seat_told core c i revision seat allowed orderly timed same is inside
      | inr apart ↦ timed_seat core (Tell c revision) i seat allowed timed apart is inside
    ];
    due = λ i reply seat is seated. elim (cases_eq c (i + 1)) [
      | inl same ↦ absurd (told_none core c i revision reply allowed same is)
      | inr apart ↦ due_after core (Tell c revision) timed i apart tt reply seat is seated
    ];
  }
  timed_step core others quiet allowed orderly timed = record {
    seats = λ i seat is inside. timed_seat core others i seat allowed timed tt is inside;
    due = λ i reply seat is seated. due_after core others timed i tt tt reply seat is seated;
  }

  -- ---- a step that decides

  by_accept : (one : Verdict) (n : ℕ) (seat : Seat) → seat_of one ≡ Some seat → (is_accepted (mark n one) ≡ true) × (revision_of (mark n one) ≡ n)
  by_accept (Accepted edit) n seat is = (refl, refl)
  by_accept others n seat is = absurd (none_some (seat_of others) seat refl is)

  pub due_answered : (core : CoreState) (i j : ℕ) (v : Verdict) (r : Reply) (o : Option Asked) (next : CoreState) → next_of_frame (conn core i) ≡ o → Timed core → Follows core (past_at journal j)
      → Follows next (past_at journal (suc j)) → conn next i ≡ answered o r (conn core i) → r.seat ≡ seat_of v → r.mark ≡ mark (length core.accepted + 1) v
      → (reply : Reply) (seat : Seat) → (conn next i).decided ≡ Some reply → reply.seat ≡ Some seat → (is_accepted reply.mark ≡ true) × LoggedAt journal asked (i + 1) (revision_of reply.mark)
  due_answered core i j v r None next none timed follows later own seats marks reply seat is seated = timed.due i reply seat (sym (ap (λ (x : Connection). x.decided) own) ∙ is) seated
  due_answered core i j v r (Some what) next some timed follows later own seats marks reply seat is seated =
      let same : r ≡ reply = same_some r reply (sym (ap (λ (x : Connection). x.decided) own) ∙ is) in
      let given : seat_of v ≡ Some seat = sym seats ∙ ap (λ (one : Reply). one.seat) same ∙ seated in
      let accepted = by_accept v (length core.accepted + 1) seat given in
      let marked : reply.mark ≡ mark (length core.accepted + 1) v = sym (ap (λ (one : Reply). one.mark) same) ∙ marks in
      let many : length (past_at journal j).accepted ≡ length core.accepted = ap (λ (edits : List Edit). length edits) follows.accepted in
      let has : session_in (past_at journal (suc j)) (i + 1) ≡ Some seat.session =
      later.sessions (i + 1) ∙ ap (λ (x : Connection). session_of x) (at_place next (i + 1) i refl ∙ own)
      ∙ ap (λ (one : Option Seat). option_map (λ (seat : Seat). seat.session) (option_or one (conn core i).seat)) (seats ∙ given) in (
        ap (λ m. is_accepted m) marked ∙ accepted.0,
        subst (λ (n : ℕ). LoggedAt journal asked (i + 1) n) (sym (ap (λ m. revision_of m) marked ∙ accepted.1))
            (logged_by journal asked (i + 1) seat.session j (length core.accepted + 1) has (omega (arith, many))),
      )
