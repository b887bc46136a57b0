-- What becomes of the sessions of connections, step by step.
use Rattle.mum_recording_laws.proofs.Common.{◌≡◌, ℕ, ◌+◌, ◌-◌, ◌<◌, ◌||◌, not, Bool, true, false, cond, List, length, Option, Some, None, refl, sym, ap, ◌∙◌, arith, ⊤, IfSome, is_some, nat_lt, slice_index_or, option_map, option_or, and_parts, false≢true, ltb-true, or_parts, SessionId, Step, Close, Collect, Drain, End, Frame, Look, Offer, Open, Post, Publish, Tell, Action, Ask, Keep, Asked, Verdict, Connection, Reply, Seat, answered, fresh, leads, next_of_frame, seat_given, session_of, CoreState, at_connection, connection_at, is_opened, changed_at, does, frame_action, frame_version, illegal, changed_other, changed_same, Change, at_place, change_by, change_of, change_to, conn, each_step, placed, none_stands}
use Rattle.mum_recording_laws.proofs.Options.{none_there}
use Rattle.mum_record.specs.declared.step.Step.TheVariants as steps
use Rattle.mum_core.specs.steps.Edit as edit_step

-- ---- a connection whose command is decided

-- the step decides no command of the connection at this place
abbrev pub IsNotBy : Step → ℕ → Type 0
IsNotBy (steps.Edit c) i = c ≡ i + 1 → ⊥
IsNotBy others i = ⊤

abbrev ChangeKeeps : Option Change → ℕ → Connection → Type 0
ChangeKeeps change i x = IfSome change (λ one. one.0 ≡ i + 1 → session_of (one.1 x) ≡ session_of x)

frame_keeps : (c i : ℕ) (version : Option ℕ) (a : Action) (x : Connection) → ChangeKeeps (change_by c version a) i x
frame_keeps c i version (Ask command) x = λ at. refl
frame_keeps c i version Keep x = λ at. refl
frame_keeps c i version others x = tt

edit_keeps : (core : CoreState) (c i : ℕ) (o : Option Verdict) (x : Connection) → (c ≡ i + 1 → ⊥) → ChangeKeeps (option_map (change_to core c) o) i x
edit_keeps core c i None x apart = tt
edit_keeps core c i (Some decided) x apart = λ at. absurd (apart at)

changes_keep : (core : CoreState) (step : Step) (i : ℕ) → IsNotBy step i → ChangeKeeps (change_of core step) i (conn core i)
changes_keep core (Frame c bytes) i other = frame_keeps c i (frame_version core c bytes) (frame_action core c bytes) (conn core i)
changes_keep core (steps.Edit c) i other = edit_keeps core c i (edit_step.decision core c) (conn core i) other
changes_keep core (Tell c revision) i other = λ at. refl
changes_keep core (Close c cause) i other = λ at. refl
changes_keep core others i other = tt

session_kept : (core : CoreState) (step : Step) (i : ℕ) → IsNotBy step i → session_of (conn (does core step) i) ≡ session_of (conn core i)
session_kept core step i other =
    each_step (λ (old new : Connection). session_of new ≡ session_of old) (λ x. refl) (λ x. refl) core step i (λ w past. refl) (changes_keep core step i other)

-- the same of the connection of a number
pub session_stays : (core : CoreState) (step : Step) (c : ℕ) → ((i : ℕ) → c ≡ i + 1 → IsNotBy step i) → session_of (connection_at (does core step) c) ≡ session_of (connection_at core c)
session_stays core step c other = from (nat_lt 0 c) refl
  where
    from : (b : Bool) → nat_lt 0 c ≡ b → session_of (cond b (conn (does core step) (c - 1)) (fresh 0)) ≡ session_of (cond b (conn core (c - 1)) (fresh 0))
    from false is = refl
    from true is =
        let low : 0 < c = ltb-true 0 c is in
        session_kept core step (c - 1) (other (c - 1) (omega (arith, low)))

-- ---- a connection that waits has nothing to be sent

abbrev pub IsCalm : Connection → Type 0
IsCalm x = is_some x.waiting ≡ true → x.decided ≡ None

abbrev pub AreCalm : CoreState → Type 0
AreCalm core = (i : ℕ) → IsCalm (conn core i)

abbrev ChangeCalm : Option Change → ℕ → Connection → Type 0
ChangeCalm change i x = IfSome change (λ one. one.0 ≡ i + 1 → IsCalm x → IsCalm (one.1 x))

frame_calm : (core : CoreState) (c i : ℕ) (bytes : List ℕ) (version : Option ℕ) (a : Action) → illegal core (Frame c bytes) ≡ None → ChangeCalm (change_by c version a) i (conn core i)
frame_calm core c i bytes version (Ask command) allowed =
    let first = none_stands (not (is_opened core c)) _ _ allowed in
    let second = none_stands (is_some (connection_at core c).closed) _ _ first.1 in
    let third = none_stands (is_some (connection_at core c).waiting || is_some (connection_at core c).decided) _ _ second.1 in
    let told : (connection_at core c).decided ≡ None = none_there (connection_at core c).decided (or_parts (is_some (connection_at core c).waiting) (is_some (connection_at core c).decided) third.0).1 in
    λ at calm. λ waits. sym (ap (λ (x : Connection). x.decided) (at_place core c i at)) ∙ told
frame_calm core c i bytes version Keep allowed = λ at calm. calm
frame_calm core c i bytes version others allowed = tt

answered_calm : (o : Option Asked) (reply : Reply) (x : Connection) → IsCalm x → IsCalm (answered o reply x)
answered_calm None reply x calm = calm
answered_calm (Some what) reply x calm = λ waits. absurd (false≢true waits)

edit_calm : (core : CoreState) (c i : ℕ) (o : Option Verdict) (x : Connection) → ChangeCalm (option_map (change_to core c) o) i x
edit_calm core c i None x = tt
edit_calm core c i (Some decided) x = λ at calm. answered_calm (next_of_frame x) (edit_step.reply_to core c decided) x calm

changes_calm : (core : CoreState) (step : Step) (i : ℕ) → illegal core step ≡ None → ChangeCalm (change_of core step) i (conn core i)
changes_calm core (Frame c bytes) i allowed = frame_calm core c i bytes (frame_version core c bytes) (frame_action core c bytes) allowed
changes_calm core (steps.Edit c) i allowed = edit_calm core c i (edit_step.decision core c) (conn core i)
changes_calm core (Tell c revision) i allowed = λ at calm. λ waits. refl
changes_calm core (Close c cause) i allowed = λ at calm. calm
changes_calm core others i allowed = tt

pub calm_step : (core : CoreState) (step : Step) → illegal core step ≡ None → AreCalm core → AreCalm (does core step)
calm_step core step allowed calm i =
    each_step (λ (old new : Connection). IsCalm old → IsCalm new) (λ x is. is) (λ x is. is) core step i (λ w past is. λ waits. absurd (false≢true waits)) (changes_calm core step i allowed) (calm i)

-- ---- one connection changed

pub changed_here : (core : CoreState) (c : ℕ) (change : Connection → Connection) → is_opened core c ≡ true → connection_at (at_connection c change core) c ≡ change (connection_at core c)
changed_here core c change opened =
    let both = and_parts (nat_lt 0 c) (nat_lt (c - 1) (length core.connections)) opened in
    let there : c - 1 < length core.connections = ltb-true (c - 1) (length core.connections) both.1 in
    at_first (nat_lt 0 c) both.0 ∙ changed_same core.connections (c - 1) change (fresh 0) there ∙ ap change (sym (placed core c both.0))
  where
    at_first : (b : Bool) → b ≡ true
        → cond b (slice_index_or (cond b (changed_at (c - 1) change core.connections) core.connections) (c - 1) (fresh 0)) (fresh 0) ≡ slice_index_or (changed_at (c - 1) change core.connections) (c - 1) (fresh 0)
    at_first true is = refl
    at_first false is = absurd (false≢true is)

pub changed_apart : (core : CoreState) (c d : ℕ) (change : Connection → Connection) → (d ≡ c → ⊥) → connection_at (at_connection c change core) d ≡ connection_at core d
changed_apart core c d change apart = from (nat_lt 0 d) (nat_lt 0 c) refl refl
  where
    lower : (d c : ℕ) → 0 < d → 0 < c → (d ≡ c → ⊥) → d - 1 ≡ c - 1 → ⊥
    lower d c one other apart same = apart (omega (arith, one, other, same))

    from : (a b : Bool) → nat_lt 0 d ≡ a → nat_lt 0 c ≡ b
        → cond a (slice_index_or (cond b (changed_at (c - 1) change core.connections) core.connections) (d - 1) (fresh 0)) (fresh 0) ≡ cond a (slice_index_or core.connections (d - 1) (fresh 0)) (fresh 0)
    from false b here there = refl
    from true false here there = refl
    from true true here there = changed_other core.connections (c - 1) (d - 1) change (fresh 0) (lower d c (ltb-true 0 d here) (ltb-true 0 c there) apart)

-- ---- the session that a verdict gives

pub joined : (given own : Option Seat) → option_map (λ (seat : Seat). seat.session) (option_or given own) ≡ option_or (option_map (λ (seat : Seat). seat.session) given) (option_map (λ (seat : Seat). seat.session) own)
joined None own = refl
joined (Some seat) own = refl

-- a command of a frame is answered with a session, if it gives one, and a leave with none
pub answered_session : (o : Option Asked) (reply : Reply) (x : Connection) → next_of_frame x ≡ o → IsCalm x → (o ≡ None → reply.seat ≡ None)
    → session_of (answered o reply x) ≡ option_or (option_map (λ (seat : Seat). seat.session) reply.seat) (session_of x)
answered_session None reply x next calm leaves = sym (ap (λ (o : Option Seat). option_or (option_map (λ (seat : Seat). seat.session) o) (session_of x)) (leaves refl))
answered_session (Some what) reply x next calm leaves =
    let told : x.decided ≡ None = calm (waits x what next) in
    joined reply.seat x.seat
    ∙ ap (λ (o : Option SessionId). option_or (option_map (λ (seat : Seat). seat.session) reply.seat) o) (sym (ap (λ (o : Option Reply). option_map (λ (seat : Seat). seat.session) (option_or (seat_given o) x.seat)) told))
  where
    waits : (x : Connection) (what : Asked) → next_of_frame x ≡ Some what → is_some x.waiting ≡ true
    waits x what is = from (leads x.leave) x.waiting is
      where
        from : (b : Bool) (o : Option Asked) → cond b None o ≡ Some what → is_some o ≡ true
        from true o never = absurd (cc)
        from false None never = absurd (cc)
        from false (Some one) some = refl
