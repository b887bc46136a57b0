-- The command of an entry in a journal is decided as the command was.
use Rattle.std.specs.Prelude.{◌≡◌, ℕ, List, Option}
use Rattle.mum_base.specs.declared.number.SessionId.{SessionId}
use Rattle.mum_state.specs.State.{StateValue}
use Rattle.mum_rules_user.specs.declared.message.UserMessage.TheVariants.{Leave}
use Rattle.mum_session.specs.{Action.action, Machine.Machine, Verdict.verdict}
use Rattle.mum_session.specs.declared.{action.Action.TheVariants.Ask, command.Asked.Asked}
use Rattle.mum_session.specs.declared.command.{Asked.TheVariants.User, Command.Command}
use Rattle.mum_port.specs.Asked.{WasAsked}
use Rattle.mum_audit.specs.Decision.{decided}
use Rattle.mum_owner.specs.Written.{own_frame, version_of}

-- at every state, for every actor: what is decided of the command's own frame, with the version that its login reported,
-- is what is decided of the command
abbrev pub IsHeardAgain : Asked → Type 0
IsHeardAgain what =
    (state : StateValue) (actor : Option SessionId)
    → decided state actor (version_of what) (own_frame what) ≡ verdict state actor what

-- so it is of each command for which a frame asks
abbrev pub CommandsAreHeardAgain : Type 0
CommandsAreHeardAgain =
    (machine : Machine) (kind : ℕ) (payload : List ℕ) (command : Command)
    → action machine kind payload ≡ Ask command → IsHeardAgain command.what

-- of a leave, which has no frame
abbrev pub LeavesAreHeardAgain : Type 0
LeavesAreHeardAgain = IsHeardAgain (User Leave)

-- and of all that ports ask on the desk of the control owner
abbrev pub RequestsAreHeardAgain : Type 0
RequestsAreHeardAgain = (what : Asked) → WasAsked what → IsHeardAgain what
