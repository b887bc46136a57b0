-- A connection that was sent its session was never notified that its login is rejected.
use Rattle.mum_laws.proofs.Common.{◌≡◌, ℕ, ◌+◌, ◌-◌, Bool, true, false, cond, List, [], ◌∷◌, Option, Some, None, refl, sym, ap, subst, ◌∙◌, ◌||◌, IfSome, is_some, not, option_map, option_map_or, option_or, SessionId, kind_of, payload_of, Actor, granted_where_there, StateValue, Verdict, Accepted, Lacks, Refused, Rejected, Answer, Ignored, first_lack, first_standing, tree_verdict, TreeMessage, UserCommand, command_of, limits, needs, answer_frame, outcome, reasons, actor_for, command_verdict, user_verdict, UserMessage, tree_holds, unless, action, stage_rejected, mark, verdict, Action, Ask, Keep, Asked, Version, Step, Frame, Tell, Close, Connection, Reply, Seat, answered, fresh, is_rejected, is_untold, leads, next_command, next_of_frame, rejects, seat_given, session_of, CoreState, connection_at, current, is_opened, start, IsRun, ran, machine_of, seat_of, does, frame_action, frame_version, illegal, at_place, change_by, change_of, change_to, conn, each_step, placed, none_stands, seat_placed}
use Rattle.mum_laws.proofs.Voicing.{chosen}
use Rattle.mum_session.specs.declared.session.Stage.TheVariants as stages
use Rattle.mum_session.specs.declared.command.Asked.TheVariants as commands
use Rattle.mum_record.specs.declared.step.Step.TheVariants as steps
use Rattle.mum_core.specs.steps.Edit as edit_step

-- ---- no command of who has a session is rejected

abbrev Unrejected : ℕ → Verdict → Type 0
Unrejected revision decided = is_rejected (mark revision decided) ≡ false

outcome_unrejected : (r : ℕ) (state : StateValue) (who : Actor) (actor : SessionId) (command : UserCommand) → Unrejected r (outcome state who actor command)
outcome_unrejected r state who actor (UserCommand.renew message) = refl
outcome_unrejected r state who actor (UserCommand.change other message) = refl
outcome_unrejected r state who actor (UserCommand.kick other message) = refl
outcome_unrejected r state who actor (UserCommand.text message) = refl
outcome_unrejected r state who actor (UserCommand.target message) = refl
outcome_unrejected r state who actor (UserCommand.query id) =
    unless (Unrejected r) (λ held. Answer (answer_frame id held)) (granted_where_there state who id) _ (λ held. refl) refl
outcome_unrejected r state who actor UserCommand.leave = refl

command_unrejected : (r : ℕ) (state : StateValue) (who : Actor) (actor : SessionId) (command : UserCommand) → Unrejected r (command_verdict state who actor command)
command_unrejected r state who actor command =
    unless (Unrejected r) _ (first_lack state (needs state who actor command)) _ (λ lack. refl)
    (unless (Unrejected r) _ (first_standing (limits state actor command)) _ (λ kind. refl)
    (outcome_unrejected r state who actor command))

user_unrejected : (r : ℕ) (state : StateValue) (session : SessionId) (message : UserMessage) → Unrejected r (user_verdict state (Some session) message)
user_unrejected r state session message =
    unless (Unrejected r) _ (first_standing (reasons state (Some session) message)) _ (λ reason. refl)
    (command_unrejected r state (actor_for state session message) session (command_of session message))

tree_unrejected : (r : ℕ) (state : StateValue) (session : SessionId) (message : TreeMessage) → Unrejected r (tree_verdict state session message)
tree_unrejected r = tree_holds (Unrejected r) (record {
  ignored = λ why. refl;
  lacks = λ perm channel. refl;
  refused = λ kind. refl;
  answered = λ frame. refl;
  made = λ id parent name temporary info maker. refl;
  changed = λ id actor name parent description position max_users links_add links_remove. refl;
  removed = λ id actor. refl;
  ruled = λ channel actor policy. refl;
})

pub unrejected : (r : ℕ) (state : StateValue) (session : SessionId) (command : Asked) → Unrejected r (verdict state (Some session) command)
unfolding verdict
unrejected r state session (commands.Tree message) = tree_unrejected r state session message
unrejected r state session (commands.User message) = user_unrejected r state session message

-- who is rejected is given no seat
rejected_has_none : (r : ℕ) (decided : Verdict) → is_rejected (mark r decided) ≡ true → seat_of decided ≡ None
rejected_has_none r (Accepted edit) h = cc
rejected_has_none r (Lacks perm channel) h = cc
rejected_has_none r (Refused kind) h = cc
rejected_has_none r (Rejected kind) h = refl
rejected_has_none r (Answer frame) h = cc
rejected_has_none r (Ignored why) h = cc

true_false : (b : Bool) → b ≡ true → b ≡ false → ⊥
true_false true h k = cc
true_false false h k = cc

rejected_asker : (r : ℕ) (state : StateValue) (session : Option SessionId) (command : Asked) → is_rejected (mark r (verdict state session command)) ≡ true → session ≡ None
rejected_asker r state None command h = refl
rejected_asker r state (Some session) command h = absurd (true_false _ h (unrejected r state session command))

-- ---- a connection

-- one that was sent a rejection has nothing, and is to have nothing; and so one that is to be notified of it
abbrev SaneOf : Bool → Option Asked → Option Reply → Option Seat → Type 0
SaneOf rejected waiting decided seat =
    (rejected ≡ true → (waiting ≡ None) × (decided ≡ None) × (seat ≡ None))
    × (rejects decided ≡ true → (waiting ≡ None) × (option_or (seat_given decided) seat ≡ None))

abbrev Sane : Connection → Type 0
Sane x = SaneOf x.rejected x.waiting x.decided x.seat

abbrev StaysSane : Connection → Connection → Type 0
StaysSane old new = Sane old → Sane new

fresh_sane : (w : ℕ) → Sane (fresh w)
fresh_sane w = (λ h. cc, λ h. cc)

-- ---- a reply is sent

told_by : (rejected : Bool) (waiting : Option Asked) (decided : Option Reply) (seat : Option Seat) → SaneOf rejected waiting decided seat
    → SaneOf (rejected || rejects decided) waiting None (option_or (seat_given decided) seat)
told_by true waiting decided seat sane =
    let none = sane.0 refl in
    (λ h. (none.0, refl, ap (λ (d : Option Reply). option_or (seat_given d) seat) none.1 ∙ none.2), λ h. cc)
told_by false waiting decided seat sane = (λ h. let none = sane.1 h in (none.0, refl, none.1), λ h. cc)

-- ---- a command waits

no_command : (waiting : Option Asked) (decided : Option Reply) → (is_some waiting || is_some decided) ≡ false → decided ≡ None
no_command (Some command) decided h = cc
no_command None (Some reply) h = cc
no_command None None h = refl

asked_by : (rejected : Bool) (waiting : Option Asked) (decided : Option Reply) (seat : Option Seat) (what : Asked) → rejected ≡ false → decided ≡ None → SaneOf rejected (Some what) decided seat
asked_by rejected waiting decided seat what off none = (λ h. absurd (true_false rejected h off), λ h. absurd (true_false (rejects decided) h (ap rejects none)))

-- what is asked for by a frame is of a connection that was sent no rejection
abbrev Asks : Action → Bool
Asks (Ask command) = true
Asks others = false

abbrev AsksNothing : Bool → Action → Type 0
AsksNothing rejected a = rejected ≡ true → Asks a ≡ false

stage_by : (rejected : Bool) (seat : Option Seat) → rejected ≡ true
    → stage_rejected (cond rejected stages.Rejected (option_map_or (λ (s : Seat). stages.LoggedIn s.session) seat stages.BeforeLogin)) ≡ true
stage_by true seat h = refl
stage_by false seat h = cc

asks_by : (c : ℕ) (x : Connection) (kind : ℕ) (payload : List ℕ) → AsksNothing x.rejected (action (machine_of c x) kind payload)
unfolding action
asks_by c x kind payload h =
    chosen (λ (a : Action). Asks a ≡ false) (stage_rejected (machine_of c x).stage) _ _ (λ on. refl)
    (λ off. absurd (true_false (stage_rejected (machine_of c x).stage) (stage_by x.rejected x.seat h) off))

unasked : (rejected : Bool) → (rejected ≡ true → true ≡ false) → rejected ≡ false
unasked true h = h refl
unasked false h = refl

frame_sane : (c i : ℕ) (version : Option ℕ) (a : Action) (x : Connection) → (c ≡ i + 1 → AsksNothing x.rejected a) → (c ≡ i + 1 → x.decided ≡ None)
    → IfSome (change_by c version a) (λ one. one.0 ≡ i + 1 → StaysSane x (one.1 x))
frame_sane c i version (Ask command) x nothing none = λ at sane. asked_by x.rejected x.waiting x.decided x.seat command.what (unasked x.rejected (nothing at)) (none at)
frame_sane c i version Keep x nothing none = λ at sane. sane
frame_sane c i version others x nothing none = tt

-- ---- a command is answered

no_seat : (given own : Option Seat) → option_map (λ (one : Seat). one.session) (option_or given own) ≡ None → own ≡ None
no_seat (Some one) own h = cc
no_seat None None h = refl
no_seat None (Some one) h = cc

answered_by : (command : Option Asked) (reply : Reply) (x : Connection) → ((what : Asked) → command ≡ Some what → x.waiting ≡ Some what)
    → (is_rejected reply.mark ≡ true → (reply.seat ≡ None) × (x.seat ≡ None)) → StaysSane x (answered command reply x)
answered_by None reply x waits rejected sane = sane
answered_by (Some what) reply x waits rejected sane = (
  λ h. absurd (apart what (sym (waits what refl) ∙ (sane.0 h).0)),
  λ h. let none = rejected h in (refl, ap (λ (o : Option Seat). option_or o x.seat) none.0 ∙ none.1),
)
  where
    apart : (one : Asked) → ◌≡◌ {A = Option Asked} (Some one) None → ⊥
    apart one e = cc

frame_waits : (b : Bool) (waiting : Option Asked) (what : Asked) → cond b None waiting ≡ Some what → waiting ≡ Some what
frame_waits true waiting what h = cc
frame_waits false waiting what h = h

edit_sane : (core : CoreState) (c i : ℕ) (next : Option Asked)
    → IfSome (option_map (change_to core c) (option_map (verdict (current core) (session_of (connection_at core c))) next)) (λ one. one.0 ≡ i + 1 → StaysSane (conn core i) (one.1 (conn core i)))
edit_sane core c i None = tt
edit_sane core c i (Some command) = λ at.
    let x : Connection = conn core i in
    let session : Option SessionId = session_of (connection_at core c) in
    let decided : Verdict = verdict (current core) session command in
    let r : ℕ = edit_step.next_revision core in
    answered_by (next_of_frame x) (edit_step.reply_to core c decided) x (λ what is. frame_waits (leads x.leave) x.waiting what is)
    (λ h.
    let nobody : session ≡ None = rejected_asker r (current core) session command h in
    (rejected_has_none r decided h, no_seat (seat_given x.decided) x.seat (sym (ap session_of (at_place core c i at)) ∙ nobody)))

-- ---- each step

frame_case : (core : CoreState) (c i : ℕ) (bytes : List ℕ) → illegal core (Frame c bytes) ≡ None
    → IfSome (change_of core (Frame c bytes)) (λ one. one.0 ≡ i + 1 → StaysSane (conn core i) (one.1 (conn core i)))
frame_case core c i bytes legal =
    let first = none_stands (not (is_opened core c)) _ _ legal in
    let second = none_stands (is_some (connection_at core c).closed) _ _ first.1 in
    let third = none_stands (is_untold (connection_at core c)) _ _ second.1 in
    frame_sane c i (frame_version core c bytes) (frame_action core c bytes) (conn core i)
    (λ at. subst (λ (x : Connection). AsksNothing x.rejected (frame_action core c bytes)) (at_place core c i at) (asks_by c (connection_at core c) (kind_of bytes) (payload_of bytes)))
    (λ at. subst (λ (x : Connection). x.decided ≡ None) (at_place core c i at) (no_command (connection_at core c).waiting (connection_at core c).decided third.0))

changes_sane : (core : CoreState) (step : Step) (i : ℕ) → illegal core step ≡ None → IfSome (change_of core step) (λ one. one.0 ≡ i + 1 → StaysSane (conn core i) (one.1 (conn core i)))
changes_sane core (Frame c bytes) i legal = frame_case core c i bytes legal
changes_sane core (steps.Edit c) i legal = edit_sane core c i (next_command (connection_at core c))
changes_sane core (Tell c revision) i legal = λ at sane. told_by (conn core i).rejected (conn core i).waiting (conn core i).decided (conn core i).seat sane
changes_sane core (Close c cause) i legal = λ at sane. sane
changes_sane core others i legal = tt

sane_step : (core : CoreState) (step : Step) (i : ℕ) → illegal core step ≡ None → StaysSane (conn core i) (conn (does core step) i)
sane_step core step i legal = each_step StaysSane (λ x sane. sane) (λ x sane. sane) core step i (λ w past sane. fresh_sane w) (changes_sane core step i legal)

sane_all : (core : CoreState) (run : List Step) (i : ℕ) → IsRun core run → Sane (conn core i) → Sane (conn (ran core run) i)
sane_all core [] i is sane = sane
sane_all core (step ∷ run) i is sane = sane_all (does core step) run i is.1 (sane_step core step i is.0 sane)

seated_by : (rejected : Bool) (waiting : Option Asked) (decided : Option Reply) (seat : Option Seat) (own : Seat) → SaneOf rejected waiting decided seat → seat ≡ Some own → rejected ≡ false
seated_by true waiting decided seat own sane is = absurd (apart own (sym is ∙ (sane.0 refl).2))
  where
    apart : (one : Seat) → ◌≡◌ {A = Option Seat} (Some one) None → ⊥
    apart one e = cc
seated_by false waiting decided seat own sane is = refl

pub not_both : (version : Version) (opening : StateValue) (workers c : ℕ) (run : List Step) (seat : Seat) → IsRun (start version opening workers) run
    → (connection_at (ran (start version opening workers) run) c).seat ≡ Some seat → (connection_at (ran (start version opening workers) run) c).rejected ≡ false
not_both version opening workers c run seat is own =
    let core : CoreState = ran (start version opening workers) run in
    let here : connection_at core c ≡ conn core (c - 1) = placed core c (seat_placed core c seat own) in
    let x : Connection = conn core (c - 1) in
    let sane : Sane x = sane_all (start version opening workers) run (c - 1) is (fresh_sane 0) in
    ap (λ (y : Connection). y.rejected) here
    ∙ seated_by x.rejected x.waiting x.decided x.seat seat sane (sym (ap (λ (y : Connection). y.seat) here) ∙ own)
