-- For whom commands are decided, one after the other.
use Rattle.std.specs.Prelude.{◌≡◌, ◌==◌, ℕ, Bool, List, [], ◌∷◌, Option, Some, ⊤}
use Rattle.std.specs.{List.All, List.AllByRecursion, Map.lookup}
use Rattle.mum_base.specs.declared.number.SessionId.{SessionId}
use Rattle.mum_io.specs.{Door.DoorFacts, Link.LinkFacts}
use Rattle.mum_outbox.specs.Facts.{QueueId}
use Rattle.mum_crew.specs.Turns.{TurnsTo}
use Rattle.mum_crew.specs.declared.role.Turn.{Turn}
use Rattle.mum_state.specs.declared.edit.Edit.{Edit}
use Rattle.mum_published.specs.{Calls.appended, Calls.state_of, Facts.Opening}
use Rattle.mum_session.specs.{Reply.reply_end, Verdict.verdict}
use Rattle.mum_session.specs.declared.command.Command.{Command}
use Rattle.mum_port.specs.Asked.{WasAsked}
use Rattle.mum_control.specs.Facts.{ControlFacts}
use Rattle.mum_audit.specs.Past.{with_login}
use Rattle.mum_owner.specs.{Decided.with_command, Facts.OwnerFacts, Opened.IsOpened, Turned.OwnerTurned}
use Rattle.mum_step_laws.specs.OwnerTurns.{Decision}
use Rattle.mum_serve_laws.specs.Decisions.{decisions, logins_decided}

-- each connection whose login was accepted, with the session that it got
abbrev pub Logins : Type 0
Logins = List (ℕ × SessionId)

-- the session that the last accepted login of the connection gave
abbrev pub session_in : Logins → ℕ → Option SessionId
session_in logins connection = lookup (λ other. connection == other) logins

-- with the login of a command that is decided after these edits, if it is one and is accepted
abbrev pub with_login_of : Opening → List Edit → Command → Logins → Logins
with_login_of opening edits command logins =
    with_login command.connection (reply_end (verdict (state_of opening edits) command.session command.what)) logins

-- the logins that commands leave which are decided after these edits, one after the other
abbrev pub logins_after : Opening → List Edit → Logins → List Decision → Logins
logins_after opening edits logins [] = logins
logins_after opening edits logins (decision ∷ others) =
    logins_after opening (with_command opening edits decision.command)
    (with_login_of opening edits decision.command logins) others

-- each is decided for the session that the last accepted login of its connection gave, among those before it; for
-- nobody where there was none
abbrev pub AreForTheirLogins : Opening → List Edit → Logins → List Decision → Type 0
AreForTheirLogins opening edits logins [] = ⊤
AreForTheirLogins opening edits logins (decision ∷ others) =
    (decision.command.session ≡ session_in logins decision.command.connection)
    × AreForTheirLogins opening (with_command opening edits decision.command)
    (with_login_of opening edits decision.command logins) others

-- the reply to each ends the wait for it as the verdict on it says
abbrev pub AreAnswered : Opening → List Edit → List Decision → Type 0
AreAnswered opening edits [] = ⊤
AreAnswered opening edits (decision ∷ others) =
    (decision.reply.end ≡ reply_end (verdict (state_of opening edits) decision.command.session decision.command.what))
    × AreAnswered opening (with_command opening edits decision.command) others

-- the commands that the turns of an owner decide are, from its opening on
abbrev pub DecisionsAreForTheirLogins : (D L : Type 0) → (D → DoorFacts) → (L → LinkFacts) → Type 0
DecisionsAreForTheirLogins D L door_facts link_facts =
    (control : ControlFacts) (door : D) (connections : ℕ) (journal : Bool)
    (queues : List QueueId) (store : Option QueueId) (opened owner : OwnerFacts D L) (turns : List Turn)
    → IsOpened control door connections journal queues store opened
    → (all : TurnsTo (OwnerTurned door_facts link_facts) opened turns owner)
    → AreForTheirLogins opened.control.publisher.opening (appended opened.control.publisher) []
    (decisions door_facts link_facts opened turns owner all)

-- a login of a connection that one of these commands was is still its login after all of them, with the session that
-- it got
abbrev pub LoginsLast : (D L : Type 0) → (D → DoorFacts) → (L → LinkFacts) → Type 0
LoginsLast D L door_facts link_facts =
    (control : ControlFacts) (door : D) (connections : ℕ) (journal : Bool)
    (queues : List QueueId) (store : Option QueueId) (opened owner : OwnerFacts D L) (turns : List Turn)
    → IsOpened control door connections journal queues store opened
    → (all : TurnsTo (OwnerTurned door_facts link_facts) opened turns owner)
    → All (λ login. session_in (logins_after opened.control.publisher.opening (appended opened.control.publisher) []
    (decisions door_facts link_facts opened turns owner all)) login.connection ≡ Some login.session)
    (logins_decided (decisions door_facts link_facts opened turns owner all))

-- a frame asked for each of these commands, or it is that its connection goes
abbrev pub AreAskedFor : List Decision → Type 0
AreAskedFor made = AllByRecursion (λ (decision : Decision). WasAsked decision.command.what) made

-- so are the commands that the turns of an owner decide
abbrev pub DecisionsWereAskedFor : (D L : Type 0) → (D → DoorFacts) → (L → LinkFacts) → Type 0
DecisionsWereAskedFor D L door_facts link_facts =
    (old : OwnerFacts D L) (turns : List Turn) (owner : OwnerFacts D L)
    → (all : TurnsTo (OwnerTurned door_facts link_facts) old turns owner)
    → AreAskedFor (decisions door_facts link_facts old turns owner all)
