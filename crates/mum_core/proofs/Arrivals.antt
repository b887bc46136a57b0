-- Whoever is given a seat is in its slot in some state of the run.
use Rattle.mum_core.proofs.Common.{◌≡◌, ℕ, ◌+◌, ◌<◌, Bool, true, false, cond, List, [], ◌∷◌, ◌++◌, length, map, take, drop, Option, Some, None, refl, sym, ap, subst, ◌∙◌, arith, inl, inr, ◌⊎◌, IfSome, find, ◌==◌, count_by, option_map, option_map_or, option_or, eq-eqb, take-append-drop, take_all, fold-append, same_Some, AccountId, SessionId, User, free_slot, next_number, next_slot, has_number, joining, Edit, Join, Verdict, led_to, applied, IsInSlot, IsProper, set_by, StateValue, heard_anew, is_set_anew, found_counts, Action, Ask, Keep, Asked, Connection, Reply, Seat, Version, Step, Frame, Tell, Close, answered, fresh, next_command, next_of_frame, seat_given, session_of, told, CoreState, start, connection_at, current, state_at, ran, edits_of, verdict, seat_of, does, frame_action, frame_version}
use Rattle.mum_core.proofs.{Copies.state_of_later, Fitted.IsLawful, Fitted.current_proper, Fitted.lawful_step, Lower.SeatsNext, Lower.verdict_seats, Places.Change, Places.change_by, Places.change_of, Places.change_to, Places.conn, Places.each_step, RunLaws.none_stands}
use Rattle.mum_record.specs.declared.step.Step.TheVariants as steps
use Rattle.mum_core.specs.steps.Edit as edit_step

-- ---- whoever joins is found in the next slot

none_in_front : (p : User → Bool) (xs ys : List User) → find p (xs ++ ys) ≡ None → find p xs ≡ None
none_in_front p [] ys none = refl
none_in_front p (x ∷ xs) ys none =
    let parts = none_stands (p x) x (find p (xs ++ ys)) none in
    rw parts.0 (none_in_front p xs ys parts.1)

-- a change that keeps who a user is, and where
record KeepsSeats (change : User → User) : Type 0 where
  number : (user : User) → (change user).session ≡ user.session
  slot : (user : User) → (change user).slot ≡ user.slot

found_behind : (session : SessionId) (change : User → User) (xs ys : List User) (new : User) → KeepsSeats change → find (has_number session) xs ≡ None → new.session ≡ session
    → option_map (λ (user : User). user.slot) (find (has_number session) (map change (xs ++ new ∷ ys))) ≡ Some new.slot
found_behind session change [] ys new keeps none is =
    let own : has_number session (change new) ≡ true = eq-eqb (change new).session.0 session.0 (ap (λ (id : SessionId). id.0) (keeps.number new ∙ is)) in
    rw own (ap Some (keeps.slot new))
found_behind session change (x ∷ xs) ys new keeps none is =
    let parts = none_stands (has_number session x) x (find (has_number session) xs) none in
    let other : has_number session (change x) ≡ false = ap (λ (id : SessionId). id.0 == session.0) (keeps.number x) ∙ parts.0 in
    rw other (found_behind session change xs ys new keeps parts.1 is)

heard_number : (before : List User) (set : StateValue) (edit : Edit) (user : User) (b : Bool) → (cond b (heard_anew set user) user).session ≡ user.session
heard_number before set edit user true = refl
heard_number before set edit user false = refl

heard_slot : (before : List User) (set : StateValue) (edit : Edit) (user : User) (b : Bool) → (cond b (heard_anew set user) user).slot ≡ user.slot
heard_slot before set edit user true = refl
heard_slot before set edit user false = refl

-- nobody has a number above the last that was given
none_above : (state : StateValue) (session : SessionId) → IsProper state → state.roster.last < session.0 → find (has_number session) state.roster.sessions ≡ None
none_above state session proper above = from (find (has_number session) state.roster.sessions) refl
  where
    from : (o : Option User) → find (has_number session) state.roster.sessions ≡ o → o ≡ None
    from None e = refl
    from (Some user) e =
        let some : 0 < count_by (has_number session) state.roster.sessions = found_counts (has_number session) state.roster.sessions user e in
        absurd (omega (arith, some, proper.roster.given session above))

join_seats : (state : StateValue) (name : List ℕ) (account : Option AccountId) (tokens : List (List ℕ)) → IsProper state
    → IsInSlot (applied state (Join (next_number state.roster) (next_slot state.roster) name account tokens)) (next_number state.roster) (next_slot state.roster)
join_seats state name account tokens proper =
    let session : SessionId = next_number state.roster in
    let join : Edit = Join session (next_slot state.roster) name account tokens in
    let users : List User = state.roster.sessions in
    let place : ℕ = free_slot state.roster in
    let new : User = joining session (next_slot state.roster) name account tokens in
    let set : StateValue = set_by state join in
    let none = none_above state session proper (omega arith) in
    let front : find (has_number session) (take place users) ≡ None =
    none_in_front (has_number session) (take place users) (drop place users) (ap (find (has_number session)) (take-append-drop place users) ∙ none) in
    found_behind session (λ user. cond (is_set_anew users join user) (heard_anew set user) user) (take place users) (drop place users) new
    (record {
      number = λ user. heard_number users set join user (is_set_anew users join user);
      slot = λ user. heard_slot users set join user (is_set_anew users join user);
    }) front refl

-- ---- the seats of a connection

-- in some state of the core
abbrev pub IsPresent : CoreState → Seat → Type 0
IsPresent core seat = (revision : ℕ) × IsInSlot (state_at core revision) seat.session seat.slot

-- the seat of a connection, or one that a verdict gives it
abbrev pub ArePresent : CoreState → Connection → Type 0
ArePresent core x = (seat : Seat) → (x.seat ≡ Some seat) ⊎ (seat_given x.decided ≡ Some seat) → IsPresent core seat

given_present : (core : CoreState) (c : ℕ) (session : Option SessionId) (decided : Verdict) → IsProper (current core) → SeatsNext (current core) session decided
    → (seat : Seat) → seat_of decided ≡ Some seat → IsPresent (edit_step.decides core c decided) seat
given_present core c session decided proper (inl none) seat is = cc
given_present core c session decided proper (inr next) seat is =
    let state : StateValue = current core in
    let name : List ℕ = next.1.0 in
    let account : Option AccountId = next.1.1 in
    let tokens : List (List ℕ) = next.1.2 in
    let join : Edit = Join (next_number state.roster) (next_slot state.roster) name account tokens in
    let own : Seat = record { session = next_number state.roster; slot = next_slot state.roster } in
    let same : own ≡ seat = same_Some own seat (subst (λ (v : Verdict). seat_of v ≡ Some seat) next.1.3 is) in
    let all : List Edit = core.accepted ++ edits_of decided in
    let after : led_to core.opening (take (length all) all) ≡ applied state join =
    ap (led_to core.opening) (take_all (length all) all (omega arith)) ∙ ap (λ (v : Verdict). led_to core.opening (core.accepted ++ edits_of v)) next.1.3
    ∙ fold-append applied core.opening core.accepted (join ∷ []) in (
      length all,
      subst (λ (one : Seat). IsInSlot (led_to core.opening (take (length all) all)) one.session one.slot) same
          (subst (λ (s : StateValue). IsInSlot s own.session own.slot) (sym after) (join_seats state name account tokens proper)),
    )

answered_present : (core : CoreState) (command : Option Asked) (reply : Reply) (x : Connection) → ((seat : Seat) → reply.seat ≡ Some seat → IsPresent core seat)
    → ArePresent core x → ArePresent core (answered command reply x)
answered_present core None reply x given all seat is = all seat is
answered_present core (Some command) reply x given all seat (inl is) = all seat (inl is)
answered_present core (Some command) reply x given all seat (inr is) = given seat is

either : (given own : Option Seat) (seat : Seat) → option_or given own ≡ Some seat → (own ≡ Some seat) ⊎ (given ≡ Some seat)
either None own seat is = inl is
either (Some one) own seat is = inr is

told_present : (core : CoreState) (x : Connection) → ArePresent core x → ArePresent core (told x)
told_present core x all seat (inl is) = all seat (either (seat_given x.decided) x.seat seat is)
told_present core x all seat (inr never) = cc

pub none_present : (core : CoreState) (w : ℕ) → ArePresent core (fresh w)
none_present core w seat (inl never) = cc
none_present core w seat (inr never) = cc

abbrev ChangesPresent : CoreState → Option Change → ℕ → Connection → Type 0
ChangesPresent core change i x = IfSome change (λ one. one.0 ≡ i + 1 → ArePresent core x → ArePresent core (one.1 x))

frame_present : (core : CoreState) (c i : ℕ) (version : Option ℕ) (a : Action) (x : Connection) → ChangesPresent core (change_by c version a) i x
frame_present core c i version (Ask command) x = λ at all. all
frame_present core c i version Keep x = λ at all. all
frame_present core c i version others x = tt

edit_present : (core : CoreState) (c i : ℕ) (next : Option Asked) (x : Connection) → IsProper (current core)
    → let decided = option_map (verdict (current core) (session_of (connection_at core c))) next in
    ChangesPresent (option_map_or (edit_step.decides core c) decided core) (option_map (change_to core c) decided) i x
edit_present core c i None x proper = tt
edit_present core c i (Some command) x proper = λ at all.
    let session : Option SessionId = session_of (connection_at core c) in
    let decided : Verdict = verdict (current core) session command in
    answered_present (edit_step.decides core c decided) (next_of_frame x) (edit_step.reply_to core c decided) x
    (given_present core c session decided proper (verdict_seats (current core) session command)) all

change_present : (core : CoreState) (step : Step) (i : ℕ) (x : Connection) → IsProper (current core) → ChangesPresent (does core step) (change_of core step) i x
change_present core (Frame c bytes) i x proper = frame_present (does core (Frame c bytes)) c i (frame_version core c bytes) (frame_action core c bytes) x
change_present core (steps.Edit c) i x proper = edit_present core c i (next_command (connection_at core c)) x proper
change_present core (Tell c revision) i x proper = λ at all. told_present (does core (Tell c revision)) x all
change_present core (Close c cause) i x proper = λ at all. all
change_present core others i x proper = tt

-- a state of a core is one of the next
still_present : (core : CoreState) (step : Step) (x : Connection) → ArePresent core x → ArePresent (does core step) x
still_present core step x all seat is =
    let here = all seat is in
    let later = state_of_later core (step ∷ []) here.0 in
    (later.0, subst (λ (state : StateValue). IsInSlot state seat.session seat.slot) later.1 here.1)

pub present_step : (core : CoreState) (step : Step) (i : ℕ) → IsLawful core → ArePresent core (conn core i) → ArePresent (does core step) (conn (does core step) i)
present_step core step i lawful all =
    each_step (λ old new. ArePresent (does core step) old → ArePresent (does core step) new) (λ x same. same) (λ x same. same) core step i
    (λ w past none. none_present (does core step) w) (change_present core step i (conn core i) (current_proper core lawful)) (still_present core step (conn core i) all)

present_all : (core : CoreState) (run : List Step) (i : ℕ) → IsLawful core → ArePresent core (conn core i) → ArePresent (ran core run) (conn (ran core run) i)
present_all core [] i lawful all = all
present_all core (step ∷ run) i lawful all = present_all (does core step) run i (lawful_step core step lawful) (present_step core step i lawful all)

pub seats_present : (version : Version) (opening : StateValue) (workers : ℕ) (run : List Step) (i : ℕ) → IsLawful (start version opening workers) → ArePresent (ran (start version opening workers) run) (conn (ran (start version opening workers) run) i)
seats_present version opening workers run i lawful = present_all (start version opening workers) run i lawful (none_present (start version opening workers) 0)
