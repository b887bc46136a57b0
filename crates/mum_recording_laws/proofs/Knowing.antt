-- What the entries of a run say of a connection is so of the connection.
use Rattle.mum_recording_laws.proofs.Common.{◌≡◌, ℕ, ◌+◌, ◌==◌, ◌&&◌, ◌||◌, ◌⊎◌, not, Bool, true, false, cond, List, [], ◌∷◌, ◌++◌, Option, Some, None, refl, sym, ap, subst, ◌∙◌, inl, inr, IfSome, IsTrue, is_none, is_some, list_any, option_map, option_map_or, option_or, and_parts, eqb-true, false≢true, or_left, or_parts, list_any-append, kind_of, payload_of, AUTHENTICATE, reason_code, SessionId, Reason, NotLoggedIn, may_carry, ControlEntry, Step, Close, Collect, Drain, End, Frame, Look, Offer, Open, Post, Publish, Tell, first_standing, user_reasons, Leave, action, after_frame, mark, verdict, Action, Ask, Keep, Asked, User, Message, StateValue, Verdict, Ignored, Connection, LeaveStage, Reply, Seat, closed_at, followed, fresh, is_rejected, lagging, leaving_of, leads, next_of_frame, rejects_by, seat_given, told, CoreState, connection_at, is_opened, up, machine_of, does, frame_action, frame_version, illegal, Change, at_place, change_by, change_of, change_to, conn, each_step, none_stands, has_version, leaves, rejects, command_of, frame_heard}
use Rattle.mum_recording_laws.proofs.{Options.none_there, Suiting.IsLogin, Suiting.Suits, Suiting.asks_so, Suiting.heard_as, Suiting.login_of, Suiting.suits_seated, Suiting.version_stays, Seated.not_rejected, Seated.plain_verdict, Sitting.IsNotBy}
use Rattle.mum_record.specs.declared.step.Step.TheVariants as steps
use Rattle.mum_core.specs.declared.connection.Leave.TheVariants as leaving
use Rattle.mum_core.specs.steps.Edit as edit_step

-- ---- what is known of a connection after entries

abbrev pub IsTurned : Connection → Type 0
IsTurned x = (x.rejected || rejects_by x.decided) ≡ true

pub record Known (earlier : List ControlEntry) (c : ℕ) (x : Connection) : Type 0 where
  pub left : list_any (leaves c) earlier ≡ true → x.leave ≡ leaving.Decided
  pub turned : list_any (rejects c) earlier ≡ true → (x.waiting ≡ None) × IsTurned x
  pub told : list_any (has_version c) earlier ≡ true → is_some x.version ≡ true
  pub waits : IfSome x.waiting (Suits x.version x.seat)

abbrev pub AreKnown : List ControlEntry → CoreState → Type 0
AreKnown earlier core = (i : ℕ) → Known earlier (i + 1) (conn core i)

-- ---- a step that decides nothing of it

record MayAsk (core : CoreState) (c : ℕ) : Type 0 where
  waiting : (connection_at core c).waiting ≡ None
  decided : (connection_at core c).decided ≡ None

may_ask : (core : CoreState) (c : ℕ) (bytes : List ℕ) → illegal core (Frame c bytes) ≡ None → MayAsk core c
may_ask core c bytes allowed =
    let first = none_stands (not (is_opened core c)) _ _ allowed in
    let second = none_stands (is_some (connection_at core c).closed) _ _ first.1 in
    let third = none_stands (is_some (connection_at core c).waiting || is_some (connection_at core c).decided) _ _ second.1 in
    let both = or_parts (is_some (connection_at core c).waiting) (is_some (connection_at core c).decided) third.0 in
    record { waiting = none_there (connection_at core c).waiting both.0; decided = none_there (connection_at core c).decided both.1 }

abbrev pub ChangeKnown : List ControlEntry → Option Change → ℕ → Connection → Type 0
ChangeKnown earlier change i x = IfSome change (λ one. one.0 ≡ i + 1 → Known earlier (i + 1) x → Known earlier (i + 1) (one.1 x))

-- where it waits for no reply, what its frame asks for suits it
frame_known : (earlier : List ControlEntry) (core : CoreState) (c i : ℕ) (bytes : List ℕ) (a : Action) → illegal core (Frame c bytes) ≡ None → frame_action core c bytes ≡ a
    → ChangeKnown earlier (change_by c (frame_version core c bytes) a) i (conn core i)
frame_known earlier core c i bytes (Ask command) allowed is = λ at known.
    let here : connection_at core c ≡ conn core i = at_place core c i at in
    let x : Connection = conn core i in
    let may = may_ask core c bytes allowed in
    let asks = asks_so c x (kind_of bytes) (payload_of bytes) command (sym (ap (λ (y : Connection). action (machine_of c y) (kind_of bytes) (payload_of bytes)) here) ∙ is) in
    let untold : x.decided ≡ None = sym (ap (λ (y : Connection). y.decided) here) ∙ may.decided in
    let welcome : (x.rejected || rejects_by x.decided) ≡ false = ap (λ (b : Bool). b || rejects_by x.decided) asks.welcome ∙ ap (λ (o : Option Reply). rejects_by o) untold in
    record {
      left = λ some. ap (λ (leave : LeaveStage). followed leave) (known.left some);
      turned = λ some. absurd (false≢true (sym welcome ∙ (known.turned some).1));
      told = known.told;
      waits = asks.suits;
    }
frame_known earlier core c i bytes Keep allowed is = λ at known.
    let here : connection_at core c ≡ conn core i = at_place core c i at in
    let x : Connection = conn core i in
    let none : x.waiting ≡ None = sym (ap (λ (y : Connection). y.waiting) here) ∙ (may_ask core c bytes allowed).waiting in
    record {
      left = known.left;
      turned = known.turned;
      told = λ some.
          subst (λ (y : Connection). is_some (after_frame (machine_of c y) (kind_of bytes) (payload_of bytes)).version ≡ true) (sym here)
          (version_stays (machine_of c x) (kind_of bytes) (payload_of bytes) (known.told some));
      waits = subst (λ (o : Option Asked). IfSome o (Suits (frame_version core c bytes) x.seat)) (sym none) tt;
    }
frame_known earlier core c i bytes others allowed is = tt

edit_known : (earlier : List ControlEntry) (core : CoreState) (c i : ℕ) (o : Option Verdict) (x : Connection) → (c ≡ i + 1 → ⊥) → ChangeKnown earlier (option_map (change_to core c) o) i x
edit_known earlier core c i None x apart = tt
edit_known earlier core c i (Some one) x apart = λ at known. absurd (apart at)

pub more_seats : (given : Option Reply) (seat : Option Seat) → is_some seat ≡ true → is_some (option_or (seat_given given) seat) ≡ true
more_seats given seat some = from (seat_given given)
  where
    from : (o : Option Seat) → is_some (option_or o seat) ≡ true
    from None = some
    from (Some one) = refl

waits_on : (o : Option Asked) (told : Option ℕ) (one other : Option Seat) → (is_some one ≡ true → is_some other ≡ true) → IfSome o (Suits told one) → IfSome o (Suits told other)
waits_on None told one other more is = tt
waits_on (Some what) told one other more is = suits_seated told one other what more is

told_known : (earlier : List ControlEntry) (c : ℕ) (x : Connection) → Known earlier c x → Known earlier c (told x)
told_known earlier c x known = record {
  left = known.left;
  turned = λ some. ((known.turned some).0, or_left (x.rejected || rejects_by x.decided) (rejects_by None) (known.turned some).1);
  told = known.told;
  waits = waits_on x.waiting x.version x.seat (option_or (seat_given x.decided) x.seat) (more_seats x.decided x.seat) known.waits;
}

closed_known : (earlier : List ControlEntry) (c line : ℕ) (x : Connection) → Known earlier c x → Known earlier c (closed_at line x)
closed_known earlier c line x known = record {
  left = λ some. ap (λ (leave : LeaveStage). leaving_of leave) (known.left some);
  turned = known.turned;
  told = known.told;
  waits = known.waits;
}

lagging_known : (earlier : List ControlEntry) (c : ℕ) (x : Connection) → Known earlier c x → Known earlier c (lagging x)
lagging_known earlier c x known = record {
  left = λ some. ap (λ (leave : LeaveStage). leaving_of leave) (known.left some);
  turned = known.turned;
  told = known.told;
  waits = known.waits;
}

fresh_known : (earlier : List ControlEntry) (c w : ℕ) → Known earlier c (fresh 0) → Known earlier c (fresh w)
fresh_known earlier c w known = record { left = known.left; turned = known.turned; told = known.told; waits = tt }

changes_known : (earlier : List ControlEntry) (core : CoreState) (step : Step) (i : ℕ) → illegal core step ≡ None → IsNotBy step i → ChangeKnown earlier (change_of core step) i (conn core i)
changes_known earlier core (Frame c bytes) i allowed other = frame_known earlier core c i bytes (frame_action core c bytes) allowed refl
changes_known earlier core (steps.Edit c) i allowed other = edit_known earlier core c i (edit_step.decision core c) (conn core i) other
changes_known earlier core (Tell c revision) i allowed other = λ at known. told_known earlier (i + 1) (conn core i) known
changes_known earlier core (Close c cause) i allowed other = λ at known. closed_known earlier (i + 1) (up core.line) (conn core i) known
changes_known earlier core others i allowed other = tt

pub known_on : (earlier : List ControlEntry) (core : CoreState) (step : Step) (i : ℕ) → illegal core step ≡ None → IsNotBy step i → Known earlier (i + 1) (conn core i)
    → Known earlier (i + 1) (conn (does core step) i)
known_on earlier core step i allowed other known =
    each_step (λ (old new : Connection). Known earlier (i + 1) old → Known earlier (i + 1) new) (λ x known. known) (λ x known. lagging_known earlier (i + 1) x known) core step i
    (λ w past known. fresh_known earlier (i + 1) w known) (changes_known earlier core step i allowed other) known

-- ---- an entry of another connection

pub either : (p : ControlEntry → Bool) (earlier : List ControlEntry) (entry : ControlEntry) → list_any p (earlier ++ entry ∷ []) ≡ true → (list_any p earlier ≡ true) ⊎ (p entry ≡ true)
either p earlier entry is = from (list_any p earlier) (p entry) (sym (list_any-append p earlier (entry ∷ [])) ∙ is)
  where
    from : (a b : Bool) → (a || (b || false)) ≡ true → (a ≡ true) ⊎ (b ≡ true)
    from true b is = inl refl
    from false true is = inr refl
    from false false is = absurd (false≢true is)

pub others_known : (earlier : List ControlEntry) (entry : ControlEntry) (c : ℕ) (x : Connection) → (entry.connection == c) ≡ false → Known earlier c x → Known (earlier ++ entry ∷ []) c x
others_known earlier entry c x apart known = record {
  left = λ some. known.left (before (leaves c) (is_none entry.frame) refl some);
  turned = λ some. known.turned (before (rejects c) (is_rejected entry.verdict) refl some);
  told = λ some. known.told (before (has_version c) (is_some entry.version) refl some);
  waits = known.waits;
}
  where
    before : (p : ControlEntry → Bool) (b : Bool) → p entry ≡ ((entry.connection == c) && b) → list_any p (earlier ++ entry ∷ []) ≡ true → list_any p earlier ≡ true
    before p b is some = elim (either p earlier entry some) [
      | inl there ↦ there
      | inr here ↦ absurd (false≢true (sym (ap (λ (own : Bool). own && b) apart) ∙ sym is ∙ here))
    ]

-- ---- an entry of the connection

pub own_part : (entry : ControlEntry) (c : ℕ) (b : Bool) → ((entry.connection == c) && b) ≡ true → b ≡ true
own_part entry c b is = (and_parts (entry.connection == c) b is).1

-- a frame is not heard as a leave
pub not_leave : (version : Option ℕ) (bytes : List ℕ) (what : Asked) → command_of version (Some bytes) ≡ Message what → what ≡ User Leave → ⊥
not_leave version bytes what is same =
    let heard : frame_heard version (kind_of bytes) (payload_of bytes) ≡ Message (User Leave) = is ∙ ap (λ (one : Asked). Message one) same in
    elim (heard_as version (kind_of bytes) (payload_of bytes) (User Leave) heard) [
      | inl login ↦ login.1
      | inr later ↦ later
    ]

-- an entry without a frame is a leave
pub leave_only : (entry : ControlEntry) (what : Asked) → command_of entry.version entry.frame ≡ Message what → is_none entry.frame ≡ true → what ≡ User Leave
leave_only entry what asked none = from entry.frame refl
  where
    from : (o : Option (List ℕ)) → entry.frame ≡ o → what ≡ User Leave
    from None is = let heard : Message (User Leave) ≡ Message what = sym (ap (command_of entry.version) is) ∙ asked in cc
    from (Some bytes) is = absurd (false≢true (sym (ap (λ (o : Option (List ℕ)). is_none o) is) ∙ none))

-- only a login has a version
pub version_of_login : (entry : ControlEntry) (what : Asked) → IsTrue (may_carry entry.version entry.frame) → command_of entry.version entry.frame ≡ Message what → is_some entry.version ≡ true
    → IsLogin entry.version what
version_of_login entry what carried asked some = from entry.version entry.frame refl refl carried asked
  where
    from : (o : Option ℕ) (f : Option (List ℕ)) → entry.version ≡ o → entry.frame ≡ f → IsTrue (may_carry o f) → command_of o f ≡ Message what → IsLogin entry.version what
    from None f is framed carried asked = absurd (false≢true (sym (ap (λ (o : Option ℕ). is_some o) is) ∙ some))
    from (Some number) None is framed carried asked = absurd (false≢true carried)
    from (Some number) (Some bytes) is framed carried asked =
        subst (λ (o : Option ℕ). IsLogin o what) (sym is)
        (login_of (Some number) (payload_of bytes) what (subst (λ (kind : ℕ). frame_heard (Some number) kind (payload_of bytes) ≡ Message what) (eqb-true (kind_of bytes) AUTHENTICATE carried) asked))

pub waiting_is : (x : Connection) (what : Asked) → next_of_frame x ≡ Some what → x.waiting ≡ Some what
waiting_is x what is = from (leads x.leave) x.waiting is
  where
    from : (b : Bool) (o : Option Asked) → cond b None o ≡ Some what → o ≡ Some what
    from true o never = absurd (cc)
    from false o some = some

ignored_so : (o : Option Reason) (n : ℕ) → is_rejected (mark n (option_map_or (λ reason. Ignored (reason_code reason)) o (Ignored (reason_code NotLoggedIn)))) ≡ false
ignored_so None n = refl
ignored_so (Some reason) n = refl

nobody_not_rejected : (state : StateValue) (n : ℕ) → is_rejected (mark n (verdict state None (User Leave))) ≡ false
unfolding verdict
nobody_not_rejected state n = ignored_so (first_standing (user_reasons state None Leave)) n

pub leave_not_rejected : (state : StateValue) (session : Option SessionId) (n : ℕ) → is_rejected (mark n (verdict state session (User Leave))) ≡ false
leave_not_rejected state None n = nobody_not_rejected state n
leave_not_rejected state (Some session) n = not_rejected n (verdict state (Some session) (User Leave)) (plain_verdict state session (User Leave))
