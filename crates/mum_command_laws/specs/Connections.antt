-- What becomes of what a connection sent, and of what it asks for.
use Rattle.std.specs.Prelude.{◌≡◌, ◌⊎◌, ℕ, List, [], ◌∷◌, Some, is_some, IsTrue}
use Rattle.std.specs.List.{All}
use Rattle.mum_base.specs.declared.number.SessionId.{SessionId}
use Rattle.mum_base.specs.declared.outcome.Reason.TheVariants.{Malformed, TooLong}
use Rattle.mum_frame.specs.declared.kind.TheConstants.{ACL, CHANNEL_REMOVE, CHANNEL_STATE, PERMISSION_QUERY, TEXT_MESSAGE, USER_REMOVE, USER_STATE, VOICE_TARGET}
use Rattle.mum_session.specs.{Action.action, Action.after_frame, Action.ignore, Machine.Machine}
use Rattle.mum_session.specs.declared.{action.Action.TheVariants.Ask, command.Asked.Asked}
use Rattle.mum_session.specs.declared.session.Stage.TheVariants.{LoggedIn}

-- a connection that sent a version has one after each frame
abbrev pub VersionsStay : Type 0
VersionsStay =
    (machine : Machine) (kind : ℕ) (payload : List ℕ) → IsTrue (is_some machine.version)
    → IsTrue (is_some (after_frame machine kind payload).version)

-- the types of the commands of a session: ChannelRemove, ChannelState, UserRemove, UserState, TextMessage, ACL, VoiceTarget
-- and PermissionQuery
abbrev pub commands : List ℕ
commands =
    CHANNEL_REMOVE ∷ CHANNEL_STATE ∷ USER_REMOVE ∷ USER_STATE ∷ TEXT_MESSAGE ∷ ACL ∷ VOICE_TARGET ∷ PERMISSION_QUERY
    ∷ []

-- a frame of such a type, from a connection with a session, asks for a command of this session, unless it cannot be read or
-- is longer than a command may be
abbrev pub CommandsAreAsked : Type 0
CommandsAreAsked =
    (machine : Machine) (session : SessionId) (payload : List ℕ) → machine.stage ≡ LoggedIn session
    → All (λ kind. (action machine kind payload ≡ ignore Malformed) ⊎ (action machine kind payload ≡ ignore TooLong)
    ⊎ ((what : Asked) × (action machine kind payload
    ≡ Ask (record { connection = machine.connection; worker = machine.worker; session = Some session; what = what })))) commands
