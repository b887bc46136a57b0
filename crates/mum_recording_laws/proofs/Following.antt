-- What the entries of a run's commands leave is what the run leaves.
use Rattle.mum_recording_laws.proofs.Common.{◌≡◌, ℕ, zero, suc, ◌+◌, ◌-◌, ◌==◌, not, Bool, true, false, cond, List, [], ◌∷◌, ◌++◌, length, take, Option, Some, None, inl, inr, refl, sym, ap, subst, ◌∙◌, ⊤, is_none, nat_eq, nat_lt, option_to_list, slice_get, slice_index_or, AllZip, lookup, option_map, option_map_or, option_or, and_parts, eq-eqb, eqb-true, false≢true, ne_eqb, insert_entry, SessionId, ReplyEnd, Answered, Joined, Rejected, ControlEntry, Journal, Step, Close, Collect, Drain, End, Frame, Look, Offer, Open, Post, Publish, Tell, user_reasons, Leave, mark, reply_end, edits_of, verdict, Asked, User, Message, led_to, StateValue, Edit, Verdict, Ignored, first_standing, reason_code, Reason, NotLoggedIn, Connection, LeaveStage, Seat, answered, fresh, leave_waiting, next_command, next_of_frame, session_of, CoreState, connection_at, current, is_opened, up, IsRun, gathered, ran, seat_in, seat_of, does, frame_action, frame_version, illegal, verdict_seats, placed, drain_keeps, collect_keeps, frame_keeps, none_stands, not_false, notes_keep, posted_keeps, puts_keep, same_opening, taken_core, told_core, past_before, after_entries, after_entry, mark_on, verdict_on, Past, after_verdict, session_in, with_login, first_core, Decided, IsDecided, command_of, decided}
use Rattle.mum_recording_laws.proofs.{Deciding.decided_so, Sitting.AreCalm, Sitting.IsCalm, Sitting.answered_session, Sitting.calm_step, Sitting.changed_apart, Sitting.changed_here, Sitting.session_stays}
use Rattle.mum_record.specs.declared.step.Step.TheVariants as steps
use Rattle.mum_core.specs.declared.connection.Leave.TheVariants as leaves
use Rattle.mum_core.specs.steps.Edit as edit_step
use Rattle.mum_core.specs.steps.Offer as offer_step

-- what the entries so far leave is what the core has
pub record Follows (core : CoreState) (past : Past) : Type 0 where
  pub opening : past.opening ≡ core.opening
  pub accepted : past.accepted ≡ core.accepted
  pub sessions : (c : ℕ) → session_in past c ≡ session_of (connection_at core c)

-- before all entries
pub begins : (journal : Journal) → Follows (first_core journal) (past_before journal)
begins journal = record { opening = refl; accepted = refl; sessions = λ c. nobody (nat_lt 0 c) (c - 1) }
  where
    nobody : (b : Bool) (i : ℕ) → None ≡ session_of (cond b (slice_index_or [] i (fresh 0)) (fresh 0))
    nobody true i = refl
    nobody false i = refl

-- ---- steps that decide nothing

-- the step decides no command
abbrev pub IsQuiet : Step → Type 0
IsQuiet (steps.Edit c) = ⊥
IsQuiet others = ⊤

pub same_accepted : (core : CoreState) (step : Step) → IsQuiet step → (does core step).accepted ≡ core.accepted
same_accepted core (Open c w) quiet = refl
same_accepted core (Frame c bytes) quiet = (frame_keeps core c (frame_version core c bytes) (frame_action core c bytes)).0
same_accepted core (steps.Edit c) quiet = absurd quiet
same_accepted core Publish quiet = refl
same_accepted core (Tell c revision) quiet = (notes_keep (told_core core c) (connection_at core c).worker revision).0
same_accepted core (Look w revision) quiet = refl
same_accepted core (Offer w) quiet = (puts_keep (taken_core core w) (offer_step.next_copy core w)).0
same_accepted core (Drain c) quiet = (drain_keeps core (connection_at core c).seat).0
same_accepted core Post quiet = (posted_keeps core).0
same_accepted core (Collect c) quiet = (collect_keeps core (connection_at core c).seat).0
same_accepted core (Close c cause) quiet = refl
same_accepted core End quiet = refl

quiet_session : (core : CoreState) (step : Step) (c : ℕ) → IsQuiet step → session_of (connection_at (does core step) c) ≡ session_of (connection_at core c)
quiet_session core (steps.Edit d) c quiet = absurd quiet
quiet_session core others c quiet = session_stays core others c (λ i is. tt)

pub follows_quiet : (core : CoreState) (step : Step) (past : Past) → IsQuiet step → Follows core past → Follows (does core step) past
follows_quiet core step past quiet follows = record {
  opening = follows.opening ∙ sym (same_opening core step);
  accepted = follows.accepted ∙ sym (same_accepted core step quiet);
  sessions = λ c. follows.sessions c ∙ sym (quiet_session core step c quiet);
}

-- ---- the session that a login gives

first_same : (b : Bool) (given kept : SessionId) (x : Option SessionId) → cond b (Some given) x ≡ cond b (Some given) (cond b (Some kept) x)
first_same true given kept x = refl
first_same false given kept x = refl

first_apart : (a b : Bool) (given kept : SessionId) (x : Option SessionId) → (a ≡ true → b ≡ false) → cond a (Some kept) (cond b (Some given) x) ≡ cond b (Some given) (cond a (Some kept) x)
first_apart true b given kept x apart = ap (λ (c : Bool). cond c (Some given) (Some kept)) (sym (apart refl))
first_apart false b given kept x apart = refl

not_both : (one other third : ℕ) → (other == third) ≡ false → (one == third) ≡ true → (one == other) ≡ false
not_both one other third apart same = ne_eqb one other (λ also. false≢true (sym apart ∙ eq-eqb other third (sym also ∙ eqb-true one third same)))

abbrev Logins : Type 0
Logins = List (ℕ × SessionId)

abbrev login_of : Logins → ℕ → Option SessionId
login_of logins c = lookup (λ other. c == other) logins

inserted : (logins : Logins) (c : ℕ) (session : SessionId) (d : ℕ) → login_of (insert_entry nat_eq logins c session) d ≡ cond (d == c) (Some session) (login_of logins d)
inserted [] c session d = refl
inserted (entry ∷ logins) c session d = by_test (c == entry.0) refl (inserted logins c session d)
  where
    by_test : (b : Bool) → (c == entry.0) ≡ b → login_of (insert_entry nat_eq logins c session) d ≡ cond (d == c) (Some session) (login_of logins d)
        → login_of (cond b ((entry.0, session) ∷ logins) (entry ∷ insert_entry nat_eq logins c session)) d ≡ cond (d == c) (Some session) (login_of (entry ∷ logins) d)
    by_test true is rest =
        first_same (d == entry.0) session entry.1 (login_of logins d)
        ∙ ap (λ (n : ℕ). cond (d == n) (Some session) (login_of (entry ∷ logins) d)) (sym (eqb-true c entry.0 is))
    by_test false is rest =
        ap (λ (x : Option SessionId). cond (d == entry.0) (Some entry.1) x) rest
        ∙ first_apart (d == entry.0) (d == c) session entry.1 (login_of logins d) (λ same. not_both d c entry.0 is same)

same_both : {X : Type 0} (b : Bool) (x : X) → x ≡ cond b x x
same_both true x = refl
same_both false x = refl

pub logged_in : (end : ReplyEnd) (c : ℕ) (logins : Logins) (d : ℕ)
    → login_of (with_login c end logins) d ≡ cond (d == c) (option_or (option_map (λ (seat : Seat). seat.session) (seat_in end)) (login_of logins d)) (login_of logins d)
logged_in (Joined session slot) c logins d = inserted logins c session d
logged_in Answered c logins d = same_both (d == c) (login_of logins d)
logged_in Rejected c logins d = same_both (d == c) (login_of logins d)

-- ---- a leave gives no session

leave_of_nobody : (state : StateValue) → seat_of (verdict state None (User Leave)) ≡ None
unfolding verdict
leave_of_nobody state = step (first_standing (user_reasons state None Leave))
  where
    step : (o : Option Reason) → seat_of (option_map_or (λ reason. Ignored (reason_code reason)) o
        (Ignored (reason_code NotLoggedIn))) ≡ None
    step None = refl
    step (Some reason) = refl

leave_gives_none : (state : StateValue) (session : Option SessionId) → seat_of (verdict state session (User Leave)) ≡ None
leave_gives_none state None = leave_of_nobody state
leave_gives_none state (Some session) = elim (verdict_seats state (Some session) (User Leave)) [
  | inl none ↦ none
  | inr some ↦ absurd (let never = some.0 in cc never)
]

-- where no command of a frame is decided, it is the leave
pub only_leave : (x : Connection) (what : Asked) → next_command x ≡ Some what → next_of_frame x ≡ None → what ≡ User Leave
only_leave x what is none = waiting x.leave (sym (ap (λ (o : Option Asked). option_or o (leave_waiting x.leave)) none) ∙ is)
  where
    waiting : (leave : LeaveStage) → leave_waiting leave ≡ Some what → what ≡ User Leave
    waiting leaves.Waits some = cc
    waiting leaves.Leads some = cc
    waiting leaves.Stays never = absurd (cc)
    waiting leaves.Decided never = absurd (cc)

-- ---- a step that decides

-- the core after a verdict on a command of the connection
abbrev pub after : CoreState → ℕ → Verdict → CoreState
after core c one = record (edit_step.decides core c one) { line = up core.line }

module _ (core : CoreState) (past : Past) (c : ℕ) (what : Asked) (follows : Follows core past) (calm : AreCalm core) (opened : is_opened core c ≡ true) (next : next_command (connection_at core c) ≡ Some what) where
  abbrev own : Connection
  own = connection_at core c

  abbrev one : Verdict
  one = verdict (current core) (session_of own) what

  calm_here : IsCalm own
  calm_here = subst IsCalm (sym (placed core c first)) (calm (c - 1))
    where
      first : nat_lt 0 c ≡ true
      first = (and_parts (nat_lt 0 c) (nat_lt (c - 1) (length core.connections)) opened).0

  leaves_none : next_of_frame own ≡ None → seat_of one ≡ None
  leaves_none none = ap (λ (asked : Asked). seat_of (verdict (current core) (session_of own) asked)) (only_leave own what next none) ∙ leave_gives_none (current core) (session_of own)

  session_after : (d : ℕ) → session_in (after_verdict past c one) d ≡ session_of (connection_at (after core c one) d)
  session_after d = logged_in (reply_end one) c past.logins d ∙ step (d == c) refl
    where
      step : (b : Bool) → (d == c) ≡ b
          → cond b (option_or (option_map (λ (seat : Seat). seat.session) (seat_of one)) (session_in past d)) (session_in past d) ≡ session_of (connection_at (after core c one) d)
      step true is =
          let same : d ≡ c = eqb-true d c is in
          let here : session_in past d ≡ session_of own = follows.sessions d ∙ ap (λ (n : ℕ). session_of (connection_at core n)) same in
          ap (option_or (option_map (λ (seat : Seat). seat.session) (seat_of one))) here
          ∙ sym (answered_session (next_of_frame own) (edit_step.reply_to core c one) own refl calm_here leaves_none)
          ∙ ap session_of (sym (changed_here core c (λ connection. answered (next_of_frame connection) (edit_step.reply_to core c one) connection) opened))
          ∙ ap (λ (n : ℕ). session_of (connection_at (after core c one) n)) (sym same)
      step false is =
          follows.sessions d
          ∙ ap session_of (sym (changed_apart core c d (λ connection. answered (next_of_frame connection) (edit_step.reply_to core c one) connection)
          (λ same. false≢true (sym is ∙ eq-eqb d c same))))

  follows_after : Follows (after core c one) (after_verdict past c one)
  follows_after = record {
    opening = follows.opening;
    accepted = ap (λ (edits : List Edit). edits ++ edits_of one) follows.accepted;
    sessions = session_after;
  }

  pub does_is : does core (steps.Edit c) ≡ after core c one
  does_is = ap (λ (o : Option Asked). record (option_map_or (edit_step.decides core c) (option_map (verdict (current core) (session_of own)) o) core) { line = up core.line }) next

  pub verdict_of : (entry : ControlEntry) → entry.connection ≡ c → command_of entry.version entry.frame ≡ Message what → verdict_on past entry ≡ one
  verdict_of entry at asked =
      decided_so (led_to past.opening past.accepted) (session_in past entry.connection) entry.version entry.frame what asked
      ∙ ap (λ (state : StateValue). verdict (led_to state past.accepted) (session_in past entry.connection) what) follows.opening
      ∙ ap (λ (edits : List Edit). verdict (led_to core.opening edits) (session_in past entry.connection) what) follows.accepted
      ∙ ap (λ (n : ℕ). verdict (current core) (session_in past n) what) at
      ∙ ap (λ (session : Option SessionId). verdict (current core) session what) (follows.sessions c)

  module _ (entry : ControlEntry) (says : IsDecided entry (record { connection = c; what = what; outcome = mark (length core.accepted + 1) one })) where
    verdict_is : verdict_on past entry ≡ one
    verdict_is = verdict_of entry says.connection says.asked

    mark_is : entry.verdict ≡ mark_on past entry
    mark_is =
        says.outcome ∙ ap (λ (edits : List Edit). mark (length edits + 1) one) (sym follows.accepted)
        ∙ ap (mark (length past.accepted + 1)) (sym verdict_is)

    past_is : after_entry past entry ≡ after_verdict past c one
    past_is = ap (λ (n : ℕ). after_verdict past n (verdict_on past entry)) says.connection ∙ ap (after_verdict past c) verdict_is

    pub follows_entry : Follows (does core (steps.Edit c)) (after_entry past entry)
    follows_entry =
        subst (λ (new : CoreState). Follows new (after_entry past entry)) (sym does_is) (subst (Follows (after core c one)) (sym past_is) follows_after)

-- ---- a run

-- each entry has the verdict that those before it lead to
abbrev pub HaveAll : Past → List ControlEntry → Type 0
HaveAll past [] = ⊤
HaveAll past (entry ∷ entries) = (entry.verdict ≡ mark_on past entry) × HaveAll (after_entry past entry) entries

abbrev pub Told : CoreState → Past → List ControlEntry → Type 0
Told core past entries = HaveAll past entries × Follows core (after_entries past entries)

pub record MayDecide (core : CoreState) (c : ℕ) : Type 0 where
  pub opened : is_opened core c ≡ true
  pub some : is_none (next_command (connection_at core c)) ≡ false

pub may_decide : (core : CoreState) (c : ℕ) → illegal core (steps.Edit c) ≡ None → MayDecide core c
may_decide core c allowed =
    let first = none_stands (not (is_opened core c)) _ _ allowed in
    let second = none_stands (is_none (next_command (connection_at core c))) _ _ first.1 in
    record { opened = not_false (is_opened core c) first.0; some = second.0 }

-- the run after a step
abbrev Rest : CoreState → List Step → Type 0
Rest core run =
    (past : Past) (entries : List ControlEntry) → Follows core past → AreCalm core → IsRun core run → AllZip IsDecided entries (gathered decided core run) → Told (ran core run) past entries

-- a command as it is decided
abbrev pub told_of : CoreState → ℕ → Asked → Decided
told_of core c what = record { connection = c; what = what; outcome = mark (length core.accepted + 1) (verdict (current core) (session_of (connection_at core c)) what) }

decides_one : (core : CoreState) (past : Past) (c : ℕ) (run : List Step) (entries : List ControlEntry) → Follows core past → AreCalm core → IsRun core (steps.Edit c ∷ run)
    → AllZip IsDecided entries (gathered decided core (steps.Edit c ∷ run)) → Rest (does core (steps.Edit c)) run → Told (ran (does core (steps.Edit c)) run) past entries
decides_one core past c run entries follows calm allowed zip rest = at (next_command (connection_at core c)) refl entries zip
  where
    may : MayDecide core c
    may = may_decide core c allowed.0

    at : (o : Option Asked) → next_command (connection_at core c) ≡ o → (entries : List ControlEntry)
        → AllZip IsDecided entries (option_to_list (option_map (told_of core c) o) ++ gathered decided (does core (steps.Edit c)) run) → Told (ran (does core (steps.Edit c)) run) past entries
    at None is entries zip = absurd (false≢true (sym may.some ∙ ap (λ (o : Option Asked). is_none o) is))
    at (Some what) is [] zip = absurd zip
    at (Some what) is (entry ∷ entries) zip =
        let later = rest (after_entry past entry) entries (follows_entry core past c what follows calm may.opened is entry zip.0) (calm_step core (steps.Edit c) allowed.0 calm) allowed.1 zip.1 in
        ((mark_is core past c what follows calm may.opened is entry zip.0, later.0), later.1)

pub follow : (core : CoreState) (past : Past) (run : List Step) (entries : List ControlEntry) → Follows core past → AreCalm core → IsRun core run → AllZip IsDecided entries (gathered decided core run)
    → Told (ran core run) past entries
follow core past [] [] follows calm allowed zip = (tt, follows)
follow core past [] (entry ∷ entries) follows calm allowed zip = absurd zip
follow core past (steps.Edit c ∷ run) entries follows calm allowed zip =
    decides_one core past c run entries follows calm allowed zip
    (λ later entries follows calm allowed zip. follow (does core (steps.Edit c)) later run entries follows calm allowed zip)
follow core past (step ∷ run) entries follows calm allowed zip =
    follow (does core step) past run entries (follows_quiet core step past tt follows) (calm_step core step allowed.0 calm) allowed.1 zip

-- the same by the places of the entries
pub each_has : (past : Past) (entries : List ControlEntry) → HaveAll past entries
    → (i : ℕ) (entry : ControlEntry) → slice_get entries i ≡ Some entry → entry.verdict ≡ mark_on (after_entries past (take i entries)) entry
each_has past [] all i entry there = absurd (cc)
each_has past (first ∷ entries) all zero entry there =
    let same : first ≡ entry = cc in
    subst (λ (one : ControlEntry). one.verdict ≡ mark_on past one) same all.0
each_has past (first ∷ entries) all (suc i) entry there = each_has (after_entry past first) entries all.1 i entry there
