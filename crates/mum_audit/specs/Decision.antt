-- What is decided of the command of a control entry.
use Rattle.std.specs.Prelude.{ℕ, ◌==◌, ◌||◌, Bool, false, List, Option, Some, None, if◌then◌else◌}
use Rattle.std.specs.{List.list_any, Option.option_map_or}
use Rattle.mum_base.specs.Codes.{reason_code}
use Rattle.mum_base.specs.declared.number.SessionId.{SessionId}
use Rattle.mum_frame.specs.Frame.{kind_of, payload_of}
use Rattle.mum_frame.specs.declared.kind.TheConstants.{AUTHENTICATE}
use Rattle.mum_state.specs.declared.verdict.Verdict.{Verdict, TheVariants.Ignored}
use Rattle.mum_state.specs.State.{StateValue}
use Rattle.mum_rules_tree.specs.Reasons.{is_gone, takes_no_edits}
use Rattle.mum_rules_user.specs.declared.message.UserMessage.TheVariants.{Leave}
use Rattle.mum_session.specs.{Action.commands_after_login, Heard.command_heard, Heard.login_heard, Verdict.verdict}
use Rattle.mum_session.specs.declared.{command.Asked.Asked, command.Asked.TheVariants.User, heard.Heard.Heard}
use Rattle.mum_session.specs.declared.heard.Heard.TheVariants.{Message, Malformed, TooLong}
use Rattle.mum_base.specs.declared.outcome.Reason.TheVariants as reasons

-- the actor's session is gone, or sessions made as many edits as they can: nothing that is asked is taken
abbrev pub takes_nothing : StateValue → Option SessionId → Bool
takes_nothing state actor = option_map_or (is_gone state) actor false || takes_no_edits state

-- a payload that is no message, or one that is too long, is passed over
abbrev pub heard_verdict : StateValue → Option SessionId → Heard Asked → Verdict
heard_verdict state actor (Message what) = verdict state actor what
heard_verdict state actor Malformed = Ignored (reason_code reasons.Malformed)
heard_verdict state actor TooLong = Ignored (reason_code reasons.TooLong)

-- a command that comes after a login; whoever has no session asks for none
abbrev pub command_verdict : StateValue → Option SessionId → ℕ → List ℕ → Verdict
command_verdict state None kind payload = Ignored (reason_code reasons.NotLoggedIn)
command_verdict state (Some session) kind payload = heard_verdict state (Some session) (command_heard kind payload)

-- a frame of this type and payload: a login with its Version number, or a command that comes after a login. No other
-- type is read here: voice, Version and Ping are no commands
abbrev pub frame_verdict : StateValue → Option SessionId → Option ℕ → ℕ → List ℕ → Verdict
frame_verdict state actor version kind payload =
    if kind == AUTHENTICATE then heard_verdict state actor (login_heard version payload)
    else if list_any (λ known. known == kind) commands_after_login then command_verdict state actor kind payload
    else Ignored (reason_code reasons.NotRead)

-- a frame, or the leave of a connection that ended
abbrev pub asked_verdict : StateValue → Option SessionId → Option ℕ → Option (List ℕ) → Verdict
asked_verdict state actor version None = verdict state actor (User Leave)
asked_verdict state actor version (Some frame) = frame_verdict state actor version (kind_of frame) (payload_of frame)

-- what is decided at a state of what an actor, who may have a session, asks. That the session is gone comes before
-- what is wrong with the frame
unfoldable pub decided : StateValue → Option SessionId → Option ℕ → Option (List ℕ) → Verdict
decided state actor version frame =
    if takes_nothing state actor then Ignored (reason_code reasons.Gone)
    else asked_verdict state actor version frame
