-- What the machine of frames makes of the frame of an entry.
use Rattle.std.specs.Prelude.{◌≡◌, Option, Some, None, ⊤}
use Rattle.mum_base.specs.declared.number.SessionId.{SessionId}
use Rattle.mum_state.specs.declared.verdict.Verdict.{Verdict, TheVariants.Ignored}
use Rattle.mum_state.specs.State.{StateValue}
use Rattle.mum_session.specs.Verdict.{verdict}
use Rattle.mum_session.specs.declared.action.Action.{Action, TheVariants.Ask, TheVariants.Ignore}
use Rattle.mum_session.specs.declared.session.Stage.{Stage, TheVariants.BeforeLogin, TheVariants.LoggedIn}

-- how far a connection has come that has this session, if it has one
abbrev pub stage_of : Option SessionId → Stage
stage_of None = BeforeLogin
stage_of (Some session) = LoggedIn session

-- a command is to be decided, or nothing is done for this reason
abbrev pub IsVerdict : StateValue → Action → Verdict → Type 0
IsVerdict state (Ask command) decided = decided ≡ verdict state command.session command.what
IsVerdict state (Ignore why) decided = decided ≡ Ignored why
IsVerdict state others decided = ⊥

-- the action is one of these two
abbrev pub IsAsked : Action → Type 0
IsAsked (Ask command) = ⊤
IsAsked (Ignore why) = ⊤
IsAsked others = ⊥
