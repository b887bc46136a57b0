-- A connection keeps the seat that it was sent, and one that is closed stays closed.
use Rattle.mum_core.proofs.Common.{◌≡◌, ℕ, ◌+◌, ◌-◌, Bool, true, false, cond, List, [], ◌∷◌, Option, Some, None, refl, sym, ap, ◌∙◌, inl, inr, ◌⊎◌, IfSome, nat_lt, not, is_some, option_map, option_or, Cause, SessionId, Verdict, StateValue, Action, Ask, Keep, Asked, Connection, Reply, Seat, Version, Step, Frame, Tell, Close, answered, fresh, next_command, next_of_frame, seat_given, session_of, CoreState, start, connection_at, current, is_opened, IsRun, ran, verdict, does, frame_action, frame_version, illegal}
use Rattle.mum_core.proofs.{Lower.SeatsNext, Lower.verdict_seats, Places.Change, Places.at_place, Places.change_by, Places.change_of, Places.change_to, Places.conn, Places.each_step, Places.placed, RunLaws.none_stands}
use Rattle.mum_record.specs.declared.step.Step.TheVariants as steps
use Rattle.mum_core.specs.steps.Edit as edit_step

-- ---- the seat

-- a connection that knows its seat waits for no other
abbrev pub IsSettled : Connection → Type 0
IsSettled x = (seat : Seat) → x.seat ≡ Some seat → seat_given x.decided ≡ None

abbrev pub KeepsSeat : Connection → Connection → Type 0
KeepsSeat old new = IsSettled old → IsSettled new × ((seat : Seat) → old.seat ≡ Some seat → new.seat ≡ Some seat)

has_session : (given own : Option Seat) (seat : Seat) → given ≡ None → own ≡ Some seat → option_map (λ (one : Seat). one.session) (option_or given own) ≡ None → ⊥
has_session (Some one) own seat none is never = cc
has_session None None seat none is never = cc
has_session None (Some one) seat none is never = cc

keeps_own : (given own : Option Seat) (seat : Seat) → given ≡ None → own ≡ Some seat → option_or given own ≡ Some seat
keeps_own (Some one) own seat none is = cc
keeps_own None own seat none is = is

-- a reply gives no seat, or whoever asked had none
abbrev GivesRightly : Reply → Connection → Type 0
GivesRightly reply x = (reply.seat ≡ None) ⊎ (session_of x ≡ None)

answered_seat : (command : Option Asked) (reply : Reply) (x : Connection) → GivesRightly reply x → KeepsSeat x (answered command reply x)
answered_seat None reply x rightly settled = (settled, λ seat is. is)
answered_seat (Some command) reply x rightly settled = (from rightly, λ seat is. is)
  where
    from : GivesRightly reply x → (seat : Seat) → x.seat ≡ Some seat → reply.seat ≡ None
    from (inl none) seat is = none
    from (inr nobody) seat is = absurd (has_session (seat_given x.decided) x.seat seat (settled seat is) is nobody)

abbrev ChangesKeepSeat : Option Change → ℕ → Connection → Type 0
ChangesKeepSeat change i x = IfSome change (λ one. one.0 ≡ i + 1 → KeepsSeat x (one.1 x))

frame_keeps_seat : (c i : ℕ) (version : Option ℕ) (a : Action) (x : Connection) → ChangesKeepSeat (change_by c version a) i x
frame_keeps_seat c i version (Ask command) x = λ at settled. (settled, λ seat is. is)
frame_keeps_seat c i version Keep x = λ at settled. (settled, λ seat is. is)
frame_keeps_seat c i version others x = tt

gives_rightly : (core : CoreState) (c : ℕ) (x : Connection) (decided : Verdict) → connection_at core c ≡ x → SeatsNext (current core) (session_of (connection_at core c)) decided
    → GivesRightly (edit_step.reply_to core c decided) x
gives_rightly core c x decided here (inl none) = inl none
gives_rightly core c x decided here (inr next) = inr (sym (ap session_of here) ∙ next.0)

edit_keeps_seat : (core : CoreState) (c i : ℕ) (next : Option Asked)
    → ChangesKeepSeat (option_map (change_to core c) (option_map (verdict (current core) (session_of (connection_at core c))) next)) i (conn core i)
edit_keeps_seat core c i None = tt
edit_keeps_seat core c i (Some command) = λ at.
    let session : Option SessionId = session_of (connection_at core c) in
    let decided : Verdict = verdict (current core) session command in
    answered_seat (next_of_frame (conn core i)) (edit_step.reply_to core c decided) (conn core i)
    (gives_rightly core c (conn core i) decided (at_place core c i at) (verdict_seats (current core) session command))

keeps_seat : (core : CoreState) (step : Step) (i : ℕ) → ChangesKeepSeat (change_of core step) i (conn core i)
keeps_seat core (Frame c bytes) i = frame_keeps_seat c i (frame_version core c bytes) (frame_action core c bytes) (conn core i)
keeps_seat core (steps.Edit c) i = edit_keeps_seat core c i (next_command (connection_at core c))
keeps_seat core (Tell c revision) i = λ at settled.
    let x : Connection = conn core i in
    (λ seat is. refl, λ seat is. keeps_own (seat_given x.decided) x.seat seat (settled seat is) is)
keeps_seat core (Close c cause) i = λ at settled. (settled, λ seat is. is)
keeps_seat core others i = tt

seat_step : (core : CoreState) (step : Step) (i : ℕ) → KeepsSeat (conn core i) (conn (does core step) i)
seat_step core step i = each_step KeepsSeat (λ x settled. (settled, λ seat is. is)) (λ x settled. (settled, λ seat is. is)) core step i (λ w past settled. (λ seat is. cc, λ seat is. cc)) (keeps_seat core step i)

pub seat_all : (core : CoreState) (run : List Step) (i : ℕ) → KeepsSeat (conn core i) (conn (ran core run) i)
seat_all core [] i settled = (settled, λ seat is. is)
seat_all core (step ∷ run) i settled =
    let first = seat_step core step i settled in
    let later = seat_all (does core step) run i first.0 in
    (later.0, λ seat is. later.1 seat (first.1 seat is))

abbrev pub AreSettled : CoreState → Type 0
AreSettled core = (i : ℕ) → IsSettled (conn core i)

pub settled_start : (version : Version) (opening : StateValue) (workers : ℕ) → AreSettled (start version opening workers)
settled_start version opening workers i seat is = cc

pub settled_step : (core : CoreState) (step : Step) → AreSettled core → AreSettled (does core step)
settled_step core step settled i = (seat_step core step i (settled i)).0

-- a connection that has a seat has a number
pub seat_placed : (core : CoreState) (c : ℕ) (seat : Seat) → (connection_at core c).seat ≡ Some seat → nat_lt 0 c ≡ true
seat_placed core c seat is = from (nat_lt 0 c) refl is
  where
    from : (b : Bool) → nat_lt 0 c ≡ b → (cond b (conn core (c - 1)) (fresh 0)).seat ≡ Some seat → nat_lt 0 c ≡ true
    from true e is = e
    from false e is = cc

pub seat_on : (core : CoreState) (run : List Step) (c : ℕ) (seat : Seat) → AreSettled core → (connection_at core c).seat ≡ Some seat → (connection_at (ran core run) c).seat ≡ Some seat
seat_on core run c seat settled is =
    let first = seat_placed core c seat is in
    let here : (conn core (c - 1)).seat ≡ Some seat = sym (ap (λ (x : Connection). x.seat) (placed core c first)) ∙ is in
    ap (λ (x : Connection). x.seat) (placed (ran core run) c first) ∙ (seat_all core run (c - 1) (settled (c - 1))).1 seat here

pub seats_stay : (version : Version) (opening : StateValue) (workers c : ℕ) (run more : List Step) (seat : Seat) → IsRun (start version opening workers) run → IsRun (ran (start version opening workers) run) more
    → (connection_at (ran (start version opening workers) run) c).seat ≡ Some seat → (connection_at (ran (ran (start version opening workers) run) more) c).seat ≡ Some seat
seats_stay version opening workers c run more seat is_run is_more is =
    seat_on (ran (start version opening workers) run) more c seat (λ i. (seat_all (start version opening workers) run i (settled_start version opening workers i)).0) is

-- ---- the close

abbrev KeepsClose : ℕ → Connection → Connection → Type 0
KeepsClose line old new = old.closed ≡ Some line → new.closed ≡ Some line

abbrev ChangesKeepClose : ℕ → Option Change → ℕ → Connection → Type 0
ChangesKeepClose line change i x = IfSome change (λ one. one.0 ≡ i + 1 → KeepsClose line x (one.1 x))

frame_keeps_close : (line c i : ℕ) (version : Option ℕ) (a : Action) (x : Connection) → ChangesKeepClose line (change_by c version a) i x
frame_keeps_close line c i version (Ask command) x = λ at is. is
frame_keeps_close line c i version Keep x = λ at is. is
frame_keeps_close line c i version others x = tt

answered_closed : (command : Option Asked) (reply : Reply) (x : Connection) → (answered command reply x).closed ≡ x.closed
answered_closed None reply x = refl
answered_closed (Some command) reply x = refl

edit_keeps_close : (line : ℕ) (core : CoreState) (c i : ℕ) (decided : Option Verdict) (x : Connection) → ChangesKeepClose line (option_map (change_to core c) decided) i x
edit_keeps_close line core c i None x = tt
edit_keeps_close line core c i (Some verdict) x = λ at is. answered_closed (next_of_frame x) (edit_step.reply_to core c verdict) x ∙ is

not_closed : (o : Option ℕ) (line : ℕ) → is_some o ≡ false → o ≡ Some line → ⊥
not_closed None line open_still is = cc
not_closed (Some other) line open_still is = cc

-- a connection that is closed is not closed again
closed_once : (core : CoreState) (c line : ℕ) (cause : Cause) → illegal core (Close c cause) ≡ None → (connection_at core c).closed ≡ Some line → ⊥
closed_once core c line cause h is =
    let first = none_stands (not (is_opened core c)) _ _ h in
    let second = none_stands (is_some (connection_at core c).closed) _ _ first.1 in
    not_closed (connection_at core c).closed line second.0 is

keeps_close : (line : ℕ) (core : CoreState) (step : Step) (i : ℕ) → illegal core step ≡ None → ChangesKeepClose line (change_of core step) i (conn core i)
keeps_close line core (Frame c bytes) i h = frame_keeps_close line c i (frame_version core c bytes) (frame_action core c bytes) (conn core i)
keeps_close line core (steps.Edit c) i h = edit_keeps_close line core c i (edit_step.decision core c) (conn core i)
keeps_close line core (Tell c revision) i h = λ at is. is
keeps_close line core (Close c cause) i h = λ at is. absurd (closed_once core c line cause h (ap (λ (x : Connection). x.closed) (at_place core c i at) ∙ is))
keeps_close line core others i h = tt

closed_on : (line : ℕ) (core : CoreState) (step : Step) (i : ℕ) → illegal core step ≡ None → KeepsClose line (conn core i) (conn (does core step) i)
closed_on line core step i h = each_step (KeepsClose line) (λ x is. is) (λ x is. is) core step i (λ w past is. cc) (keeps_close line core step i h)

close_all : (line : ℕ) (core : CoreState) (run : List Step) (i : ℕ) → IsRun core run → KeepsClose line (conn core i) (conn (ran core run) i)
close_all line core [] i h is = is
close_all line core (step ∷ run) i h is = close_all line (does core step) run i h.1 (closed_on line core step i h.0 is)

closed_placed : (core : CoreState) (c line : ℕ) → (connection_at core c).closed ≡ Some line → nat_lt 0 c ≡ true
closed_placed core c line is = from (nat_lt 0 c) refl is
  where
    from : (b : Bool) → nat_lt 0 c ≡ b → (cond b (conn core (c - 1)) (fresh 0)).closed ≡ Some line → nat_lt 0 c ≡ true
    from true e is = e
    from false e is = cc

pub closed_stays : (core : CoreState) (c line : ℕ) (run : List Step) → IsRun core run → (connection_at core c).closed ≡ Some line → (connection_at (ran core run) c).closed ≡ Some line
closed_stays core c line run h is =
    let first = closed_placed core c line is in
    let here : (conn core (c - 1)).closed ≡ Some line = sym (ap (λ (x : Connection). x.closed) (placed core c first)) ∙ is in
    ap (λ (x : Connection). x.closed) (placed (ran core run) c first) ∙ close_all line core run (c - 1) h here
