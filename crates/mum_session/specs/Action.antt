-- What a frame asks for, by its type.
use Rattle.std.specs.Prelude.{ℕ, ◌==◌, ◌&&◌, Bool, true, false, List, [], ◌∷◌, Option, Some, None, Result, Ok, Err, if◌then◌else◌}
use Rattle.std.specs.List.{list_any}
use Rattle.mum_base.specs.declared.{number.SessionId.SessionId, outcome.Reason.Reason}
use Rattle.mum_base.specs.Codes.{reason_code}
use Rattle.mum_base.specs.declared.outcome.Reason.TheVariants.{Gone, Malformed, NotLoggedIn, NotRead}
use Rattle.mum_frame.specs.Frame.{spelling_of}
use Rattle.mum_frame.specs.declared.kind.TheConstants.{UDP_TUNNEL, VERSION, PING, AUTHENTICATE, CHANNEL_REMOVE, CHANNEL_STATE, USER_REMOVE, USER_STATE, TEXT_MESSAGE, ACL, VOICE_TARGET, PERMISSION_QUERY}
use Rattle.mum_fields.specs.declared.message.MessageFault.{MessageFault}
use Rattle.mum_fields.specs.{Message.or_else, Written.written}
use Rattle.mum_fields.specs.Table.{Table, Values, layout, decoded, items}
use Rattle.mum_msg_state.specs.Messages.{version, ping}
use Rattle.mum_session.specs.declared.{action.Action.Action, action.TheConstants.BAN_LIST, command.Asked.Asked}
use Rattle.mum_session.specs.declared.heard.Heard.{Heard}
use Rattle.mum_session.specs.declared.action.Action.TheVariants.{Ask, Voice, Echo, Keep, Ignore, Bans}
use Rattle.mum_session.specs.Heard.{login_heard, command_heard}
use Rattle.mum_session.specs.Machine.{Machine, session_of, is_rejected}
use Rattle.mum_base.specs.declared.outcome.Reason.TheVariants as reasons
use Rattle.mum_session.specs.declared.heard.Heard.TheVariants as heard

-- the values of a message's fields, or what is wrong with its payload
abbrev pub Decoded : {M : Type 0} → Table M → Type 0
Decoded rows = Result (Values (layout rows)) MessageFault

-- nothing, for this reason
abbrev pub ignore : Reason → Action
ignore reason = Ignore (reason_code reason)

abbrev pub version_action : Decoded version → Action
version_action (Ok values) = Keep
version_action (Err fault) = ignore Malformed

-- a Ping is answered by a Ping of its timestamp alone
abbrev pub ping_action : Decoded ping → Action
ping_action (Ok values) = Echo (spelling_of PING (written (items (layout ping) values)))
ping_action (Err fault) = ignore Malformed

-- a voice packet of who is logged in is heard; it is not looked into
abbrev pub voice_action : Option SessionId → List ℕ → Action
voice_action None payload = ignore NotLoggedIn
voice_action (Some session) payload = Voice payload

-- what comes after a login asks for nothing before it
abbrev pub after_login : Option SessionId → Action → Action
after_login None action = ignore NotLoggedIn
after_login (Some session) action = action

-- a command waits to be decided
abbrev pub command_action : Machine → Heard Asked → Action
command_action machine (heard.Message what) =
    Ask (record { connection = machine.connection; worker = machine.worker; session = session_of machine.stage; what = what })
command_action machine heard.Malformed = ignore Malformed
command_action machine heard.TooLong = ignore reasons.TooLong

-- a login, with the number of the version that was sent before
abbrev pub login_action : Machine → List ℕ → Action
login_action machine payload = command_action machine (login_heard machine.version payload)

-- the commands of who is logged in, by the type of the frame
abbrev pub tree_or_user_action : Machine → ℕ → List ℕ → Action
tree_or_user_action machine kind payload = command_action machine (command_heard kind payload)

-- the types of the commands that come after a login
abbrev pub commands_after_login : List ℕ
commands_after_login =
    CHANNEL_REMOVE ∷ CHANNEL_STATE ∷ USER_REMOVE ∷ USER_STATE ∷ TEXT_MESSAGE ∷ ACL ∷ VOICE_TARGET ∷ PERMISSION_QUERY
    ∷ []

-- the types that are taken before a login
abbrev pub taken_before_login : List ℕ
taken_before_login = VERSION ∷ PING ∷ AUTHENTICATE ∷ []

-- a list of bans asks to be settled where such lists are taken from the connection and it is logged in; it is not looked
-- into. No other type is read
abbrev pub bans_action : Machine → ℕ → List ℕ → Action
bans_action machine kind payload =
    if machine.bans && kind == BAN_LIST then after_login (session_of machine.stage) (Bans payload)
    else ignore NotRead

-- what a type asks for that is read of who is logged in alone, or of nobody
abbrev pub other_action : Machine → ℕ → List ℕ → Action
other_action machine kind payload =
    if list_any (λ known. known == kind) commands_after_login then after_login (session_of machine.stage)
    (tree_or_user_action machine kind payload)
    else bans_action machine kind payload

-- what a frame of this type and payload asks for; after a rejected login none asks for anything
unfoldable pub action : Machine → ℕ → List ℕ → Action
action machine kind payload =
    if is_rejected machine.stage then ignore Gone
    else if kind == UDP_TUNNEL then voice_action (session_of machine.stage) payload
    else if kind == VERSION then version_action (decoded version payload)
    else if kind == PING then ping_action (decoded ping payload)
    else if kind == AUTHENTICATE then login_action machine payload
    else other_action machine kind payload

-- ---- the machine after a frame

-- whether a reply is awaited after it
abbrev pub asks : Action → Bool
asks (Ask command) = true
asks (Bans payload) = true
asks others = false

-- the number of the last Version that has one
abbrev pub version_after : Option ℕ → Decoded version → Option ℕ
version_after before (Ok values) = or_else values.0 before
version_after before (Err fault) = before

abbrev pub kept_version : Machine → ℕ → List ℕ → Option ℕ
kept_version machine kind payload =
    if is_rejected machine.stage then machine.version
    else if kind == VERSION then version_after machine.version (decoded version payload)
    else machine.version

-- a reply is awaited after a command, and after a list of bans
unfoldable pub after_frame : Machine → ℕ → List ℕ → Machine
after_frame machine kind payload =
    record machine { version = kept_version machine kind payload; awaits = asks (action machine kind payload) }
