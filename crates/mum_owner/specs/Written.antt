-- What is counted and written down of the commands.
use Rattle.std.specs.Prelude.{◌≡◌, ◌==◌, ℕ, ◌&&◌, ◌||◌, Bool, true, false, IsTrue, List, [], ◌∷◌, ◌++◌, is_none, Option, Some, None, IfSome, if◌then◌else◌}
use Rattle.std.specs.Option.{option_map}
use Rattle.mum_base.specs.declared.reply.Mark.{Mark, TheVariants.Accepted}
use Rattle.mum_frame.specs.Frame.{IsOneFrame, kind_of, spelling_of}
use Rattle.mum_record.specs.Journal.{may_carry}
use Rattle.mum_record.specs.declared.journal.ControlEntry.{ControlEntry}
use Rattle.mum_rules_tree.specs.declared.message.TreeMessage.{TreeMessage}
use Rattle.mum_rules_tree.specs.declared.message.TreeMessage.TheVariants.{State, Remove, Acl}
use Rattle.mum_rules_user.specs.declared.message.UserMessage.{UserMessage}
use Rattle.mum_rules_user.specs.declared.message.UserMessage.TheVariants.{Join, Kick, Leave, Query, Target, Text}
use Rattle.mum_session.specs.declared.command.Asked.{Asked, TheVariants.Tree, TheVariants.User}
use Rattle.mum_session.specs.declared.command.Command.{Command}
use Rattle.mum_owner.specs.Facts.{ScribeFacts}
use Rattle.mum_owner.specs.declared.entry.Draft.{Draft}
use Rattle.mum_frame.specs.declared.kind.TheConstants as kinds
use Rattle.mum_rules_tree.specs.Asked as channels
use Rattle.mum_rules_user.specs.Asked as users
use Rattle.mum_rules_user.specs.declared.message.UserMessage.TheVariants as about

abbrev pub is_join : Asked → Bool
is_join (User (Join login version)) = true
is_join others = false

-- the login of a connection that has no session
abbrev pub is_login : Command → Bool
is_login command = is_none command.session && is_join command.what

-- the report that a connection ended
abbrev pub is_leave : Asked → Bool
is_leave (User Leave) = true
is_leave others = false

-- the version that a login reported
abbrev pub version_of : Asked → Option ℕ
version_of (User (Join login version)) = version
version_of others = None

-- the type of the frame of a message on channels
abbrev pub tree_kind : TreeMessage → ℕ
tree_kind (State message) = kinds.CHANNEL_STATE
tree_kind (Remove message) = kinds.CHANNEL_REMOVE
tree_kind (Acl message) = kinds.ACL

-- the type of the frame of a message on users; a leave has none
abbrev pub user_kind : UserMessage → Option ℕ
user_kind (Join login version) = Some kinds.AUTHENTICATE
user_kind (about.User message) = Some kinds.USER_STATE
user_kind (Kick message) = Some kinds.USER_REMOVE
user_kind (Text message) = Some kinds.TEXT_MESSAGE
user_kind (Target message) = Some kinds.VOICE_TARGET
user_kind (Query message) = Some kinds.PERMISSION_QUERY
user_kind Leave = None

-- the frame of a command, its message as this server encodes it; a leave has none
abbrev pub own_frame : Asked → Option (List ℕ)
own_frame (Tree message) = Some (spelling_of (tree_kind message) (channels.payload_of message))
own_frame (User message) = option_map (λ kind. spelling_of kind (users.payload_of message)) (user_kind message)

-- the version that a connection sent, at a frame of this type: a login alone has it
abbrev pub version_with : ℕ → Option ℕ → Option ℕ
version_with kind told = if kind == kinds.AUTHENTICATE then told else None

-- the journal has a frame of this type of the command, and this version
abbrev pub IsWrittenAs : ℕ → Option ℕ → Asked → Type 0
IsWrittenAs kind version what =
    (frame : List ℕ) × (own_frame what ≡ Some frame) × (kind_of frame ≡ kind) × (version_of what ≡ version)

-- what can be written of a command as a line of a journal: its frame is within the limit of frames
abbrev pub IsWritableDraft : Draft → Type 0
IsWritableDraft draft = IfSome draft.frame IsOneFrame × IsTrue (may_carry draft.version draft.frame)

-- how many edits were accepted, after a command of this outcome
abbrev pub accepted_by : Option Mark → ℕ → ℕ
accepted_by (Some (Accepted revision)) accepted = revision
accepted_by others accepted = accepted

-- an entry is written where one is prepared and the command has an outcome
abbrev pub entries_by : ℕ → Option Draft → Option Mark → List ControlEntry
entries_by connection (Some draft) (Some verdict) =
    record { connection = connection; version = draft.version; frame = draft.frame; verdict = verdict } ∷ []
entries_by connection draft mark = []

-- a command of a connection had this outcome, and memory ran out for its reply or did not
abbrev pub recorded : ℕ → Option Mark → Bool → ScribeFacts → ScribeFacts
recorded connection mark no_memory scribe = record {
  is_asked = scribe.is_asked;
  draft = None;
  entries = scribe.entries ++ entries_by connection scribe.draft mark;
  accepted = accepted_by mark scribe.accepted;
  no_memory = scribe.no_memory || (no_memory || is_none mark);
}

-- memory ran out before a command was decided
abbrev pub refused : ScribeFacts → ScribeFacts
refused scribe = record scribe { draft = None; no_memory = true }

-- what is prepared of a command's entry, where a journal was asked for
abbrev pub prepared : Bool → Command → Option Draft
prepared false command = None
prepared true command = Some (record { version = version_of command.what; frame = own_frame command.what })
