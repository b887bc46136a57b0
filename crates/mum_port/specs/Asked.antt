-- What the commands on the desk are.
use Rattle.std.specs.Prelude.{◌≡◌, ◌⊎◌, ℕ, List, ⊤}
use Rattle.mum_rules_user.specs.declared.message.UserMessage.TheVariants.{Leave}
use Rattle.mum_session.specs.{Action.action, Machine.Machine}
use Rattle.mum_session.specs.declared.{action.Action.Action, action.Action.TheVariants.Ask, command.Asked.Asked}
use Rattle.mum_session.specs.declared.command.{Asked.TheVariants.User, Command.Command}

-- a frame of a connection asks for a command of this
pub record IsAskedFor (what : Asked) : Type 0 where
  pub machine : Machine
  pub kind : ℕ
  pub payload : List ℕ
  pub command : Command
  pub asks : action machine kind payload ≡ Ask command
  pub what_is : command.what ≡ what

-- a frame asks for it, or it is that a connection goes
abbrev pub WasAsked : Asked → Type 0
WasAsked what = IsAskedFor what ⊎ (what ≡ User Leave)

-- the command of an action, if it asks for one
abbrev pub AsksAsHeard : Action → Type 0
AsksAsHeard (Ask command) = IsAskedFor command.what
AsksAsHeard others = ⊤
