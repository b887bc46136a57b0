-- A turn of an owner as steps of the core.
use mathlib.Core.Logic.{inl, inr}
use Rattle.std.specs.Prelude.{◌≡◌, ℕ, ◌&&◌, Bool, true, false, List, [], ◌∷◌, ◌++◌, Option, Some, None, MatchOption}
use Rattle.std.specs.List.{AllByRecursion, flat_map}
use Rattle.mum_base.specs.declared.number.SessionId.{SessionId}
use Rattle.mum_io.specs.{Door.DoorFacts, Link.LinkFacts}
use Rattle.mum_crew.specs.declared.role.Turn.{Turn}
use Rattle.mum_record.specs.declared.step.Step.{Step, TheVariants.Edit, TheVariants.Post, TheVariants.Publish}
use Rattle.mum_published.specs.Facts.{NoteFacts, ReplyFacts}
use Rattle.mum_session.specs.declared.command.Command.{Command}
use Rattle.mum_core.specs.{Core.CoreState, Laws.IsRun, Laws.ran}
use Rattle.mum_port.specs.declared.item.DeskItem.{DeskItem}
use Rattle.mum_control.specs.{Commanded.Commanded, Facts.ControlFacts}
use Rattle.mum_owner.specs.Banning.{IsGivenOrRefused, SettledBy, TestedBy, banned_in, is_banned, with_warden}
use Rattle.mum_owner.specs.{Facts.OwnerFacts, Given.IsGiven, Guests.owned, Guests.session_of, Turned.OwnerTurned}
use Rattle.mum_owner.specs.Written.{is_leave, is_login}
use Rattle.mum_owner.specs.Serving.{LeaveIsGiven, Next, Receives, ReceivesBy, ReceivesItem, Serves, ServesDesk, leave_of, must_wait, next, with_pass}
use Rattle.mum_owner.specs.Serving.Next.{Again, Goes, Rest, Take}
use Rattle.mum_step_laws.specs.ControlSteps.{HasAsked, OwnsAs}
use Rattle.mum_port.specs.declared.item.DeskItem.TheVariants as items

-- ---- what is decided in a turn

-- a command that was decided, and what it was answered
pub record Decision : Type 0 where
  pub command : Command
  pub reply : ReplyFacts

-- a command that the control owner was given, where it decided it: none where memory ran out before
abbrev pub decided_by : (old : ControlFacts) (command : Command) (reply : ReplyFacts) (new : ControlFacts)
    → Commanded old command reply new → List Decision
decided_by old command reply new (inl dropped) = []
decided_by old command reply new (inr decides) = record { command = command; reply = reply } ∷ []

module _ {D L : Type 0} where
  abbrev pub decided_given : (old : OwnerFacts D L) (command : Command) (new : OwnerFacts D L)
      → IsGiven old command new → List Decision
  decided_given old command new (inl gives) = decided_by old.control command gives.reply new.control gives.commanded
  decided_given old command new (inr drops) = []

  -- a login of somebody who is banned is not given
  abbrev pub decided_tested : (banned : Bool) (old : OwnerFacts D L) (login : Command) (new : OwnerFacts D L)
      → TestedBy banned old login new → List Decision
  decided_tested true old login new answers = []
  decided_tested false old login new given = decided_given old login new given

  -- nor is a removal for whose ban there was no memory
  abbrev pub decided_settling : (login : Bool) (banned : Option SessionId) (old : OwnerFacts D L) (command : Command)
      (new : OwnerFacts D L)
      → SettledBy login banned old command new → List Decision
  decided_settling true banned old command new tests =
      decided_tested (is_banned old command tests.warden.last) (with_warden tests.warden old) command new tests.tested
  decided_settling false (Some banned) old command new (inl lacks) = []
  decided_settling false (Some banned) old command new (inr removes) =
      decided_given (with_warden removes.warden old) command removes.after removes.given
  decided_settling false None old command new given = decided_given old command new given

  abbrev pub decided_command : (old : OwnerFacts D L) (command : Command) (new : OwnerFacts D L)
      → IsGivenOrRefused old command new → List Decision
  decided_command old command new given = decided_settling (is_login command) (banned_in command) old command new given

  -- a leave is of the session that is kept for its connection
  abbrev pub decided_leave : (old : OwnerFacts D L) (connection : ℕ) (decided : Bool) (new : OwnerFacts D L)
      → LeaveIsGiven old connection decided new → List Decision
  decided_leave old connection decided new (inl gives) =
      decided_by gives.emptied (leave_of connection (session_of connection old.guests.rows))
      gives.reply new.control gives.commanded
  decided_leave old connection decided new (inr drops) = []

  abbrev pub decided_receiving : (leave waits : Bool) (old : OwnerFacts D L) (command : Command) (new : OwnerFacts D L)
      → ReceivesBy leave waits old command new → List Decision
  decided_receiving true waits old command new received = decided_leave old command.connection received.0 new received.1
  decided_receiving false true old command new received = []
  decided_receiving false false old command new received = decided_command old command new received

  abbrev pub decided_owned : (own : Option Command) (old new : OwnerFacts D L) → Receives old own new → List Decision
  decided_owned None old new received = []
  decided_owned (Some command) old new received =
      decided_receiving (is_leave command.what) (is_login command && must_wait old) old command new received

  -- a list of bans is no command
  abbrev pub decided_item : (old : OwnerFacts D L) (item : Option DeskItem) (new : OwnerFacts D L)
      → ReceivesItem old item new → List Decision
  decided_item old (Some (items.Command command)) new received =
      decided_owned (owned old.guests.rows command) old new received
  decided_item old others new received = []

  -- a login that had waited
  abbrev pub decided_waiting : (own : Option Command) (old new : OwnerFacts D L)
      → MatchOption own (new ≡ old) (λ command. IsGivenOrRefused old command new) → List Decision
  decided_waiting None old new given = []
  decided_waiting (Some command) old new given = decided_command old command new given

  abbrev pub decided_as : (next : Next) (old : OwnerFacts D L) (worked : Bool) (new : OwnerFacts D L)
      → Serves next old worked new → List Decision
  decided_as Rest old worked new rests = []
  decided_as (Again connection) old worked new given = decided_leave old connection worked new given
  decided_as Goes old worked new gives =
      decided_waiting (owned old.guests.rows gives.login) (record old { logins = gives.rest }) new gives.given
  decided_as Take old worked new takes = decided_item (with_pass takes.pass old) takes.item new takes.received

  -- the command that was decided in a turn, if one was
  abbrev pub decided_in : (old : OwnerFacts D L) (worked : Bool) (new : OwnerFacts D L) → ServesDesk old worked new
      → List Decision
  decided_in old worked new serves = decided_as (next old) old worked new serves

-- ---- the steps of a turn

-- the reply has the note of a publish
abbrev pub publish_noted : Option NoteFacts → List Step
publish_noted None = []
publish_noted (Some note) = Publish ∷ []

-- a command that is decided is an edit of its connection, which is published as well where the reply has a note
abbrev pub steps_decided : Decision → List Step
steps_decided decision = Edit decision.command.connection ∷ publish_noted decision.reply.note

abbrev pub step_where : Bool → Step → List Step
step_where true step = step ∷ []
step_where false step = []

module _ {D L : Type 0} (door_facts : D → DoorFacts) (link_facts : L → LinkFacts) where
  abbrev pub decisions_of : (old : OwnerFacts D L) (turn : Turn) (new : OwnerFacts D L)
      → OwnerTurned door_facts link_facts old turn new → List Decision
  decisions_of old turn new turned = decided_in turned.after_offers turned.served turned.after_desk turned.serves

  -- a turn decides a command, publishes what was not published, and posts a notice, each where it did so
  abbrev pub steps_of_turn : (old : OwnerFacts D L) (turn : Turn) (new : OwnerFacts D L)
      → OwnerTurned door_facts link_facts old turn new → List Step
  steps_of_turn old turn new turned =
      flat_map steps_decided (decisions_of old turn new turned)
      ++ (step_where turned.published Publish ++ step_where turned.posted Post)

-- a turn of an owner is a run of steps of the core, each allowed where it comes, where the connection of a command
-- that is decided waits in the core for this command. The core has then what the control owner has
abbrev pub OwnersAreOwners : (D L : Type 0) → (D → DoorFacts) → (L → LinkFacts) → Type 0
OwnersAreOwners D L door_facts link_facts =
    (old : OwnerFacts D L) (turn : Turn) (new : OwnerFacts D L)
    (turned : OwnerTurned door_facts link_facts old turn new)
    → (core : CoreState) → OwnsAs old.control core
    → AllByRecursion (λ decision. HasAsked decision.command core)
    (decisions_of door_facts link_facts old turn new turned)
    → IsRun core (steps_of_turn door_facts link_facts old turn new turned)
    × OwnsAs new.control (ran core (steps_of_turn door_facts link_facts old turn new turned))
