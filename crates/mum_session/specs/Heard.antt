-- What the payload of a command is to the machine.
use Rattle.std.specs.Prelude.{◌≡◌, ℕ, ◌==◌, nat_lt, List, length, Option, Some, None, Result, Ok, Err, alloc_error, if◌then◌else◌}
use Rattle.std.specs.declared.alloc.AllocError.{AllocError}
use Rattle.mum_frame.specs.declared.kind.TheConstants.{CHANNEL_REMOVE, CHANNEL_STATE, USER_REMOVE, USER_STATE, TEXT_MESSAGE, ACL, VOICE_TARGET}
use Rattle.mum_fields.specs.declared.message.MessageFault.{MessageFault}
use Rattle.mum_fields.specs.Table.{Table, Layout, Values, layout, decoded, items}
use Rattle.mum_fields.specs.Written.{written}
use Rattle.mum_msg_state.specs.Messages.{authenticate, channel_remove, channel_state, user_remove, user_state}
use Rattle.mum_msg_state.specs.Parts.{authenticate_of, channel_remove_of, channel_state_of, user_remove_of, user_state_of}
use Rattle.mum_msg_rule.specs.Messages.{acl, permission_query, text_message, voice_target}
use Rattle.mum_msg_rule.specs.Parts.{acl_of, permission_query_of, text_message_of, voice_target_of}
use Rattle.mum_rules_tree.specs.declared.reason.TheConstants.{COMMAND_LIMIT}
use Rattle.mum_session.specs.declared.command.Asked.{Asked, TheVariants.Tree, TheVariants.User}
use Rattle.mum_session.specs.declared.heard.Heard.{Heard}
use Rattle.mum_session.specs.declared.heard.Heard.TheVariants.{Message, Malformed, TooLong}
use Rattle.mum_fields.specs.declared.message.MessageFault.TheVariants as faults
use Rattle.mum_rules_tree.specs.declared.message.TreeMessage.TheVariants as channels
use Rattle.mum_rules_user.specs.declared.message.UserMessage.TheVariants as users

-- the values of a message, as long as its own encoding is within the limit of commands
abbrev pub within_limit : (form : Layout) → Values form → Heard (Values form)
within_limit form values =
    if nat_lt COMMAND_LIMIT (length (written (items form values))) then TooLong else Message values

abbrev pub read_from : (form : Layout) → Result (Values form) MessageFault → Heard (Values form)
read_from form (Ok values) = within_limit form values
read_from form (Err fault) = Malformed

-- what the payload of a message with this table is
abbrev pub read : {M : Type 0} → (rows : Table M) → List ℕ → Heard (Values (layout rows))
read rows payload = read_from (layout rows) (decoded rows payload)

abbrev pub heard_map : {X Y : Type 0} → (X → Y) → Heard X → Heard Y
heard_map f (Message x) = Message (f x)
heard_map f Malformed = Malformed
heard_map f TooLong = TooLong

-- a message, seen by view, is what a payload decodes to; there is none where that is malformed
abbrev pub Reads : {M V : Type 0} → (M → V) → Option M → Result V MessageFault → Type 0
Reads view None decoded = (fault : MessageFault) × (decoded ≡ Err fault)
Reads view (Some m) decoded = decoded ≡ Ok (view m)

-- out of memory is set apart from what is wrong with a payload
abbrev pub well_formed : {M : Type 0} → Result M MessageFault → Result (Option M) AllocError
well_formed (Ok m) = Ok (Some m)
well_formed (Err (faults.Field fault)) = Ok None
well_formed (Err (faults.MissingField number)) = Ok None
well_formed (Err faults.OutOfMemory) = Err alloc_error

-- a login, with the number of the version that was sent before
abbrev pub login_heard : Option ℕ → List ℕ → Heard Asked
login_heard version payload =
    heard_map (λ values. User (users.Join (authenticate_of values) version)) (read authenticate payload)

-- the other commands, by the type of the frame
abbrev pub command_heard : ℕ → List ℕ → Heard Asked
command_heard kind payload =
    if kind == CHANNEL_REMOVE then heard_map (λ values. Tree (channels.Remove (channel_remove_of values)))
    (read channel_remove payload)
    else if kind
    == CHANNEL_STATE then heard_map (λ values. Tree (channels.State (channel_state_of values)))
    (read channel_state payload)
    else if kind
    == USER_REMOVE then heard_map (λ values. User (users.Kick (user_remove_of values))) (read user_remove payload)
    else if kind
    == USER_STATE then heard_map (λ values. User (users.User (user_state_of values))) (read user_state payload)
    else if kind
    == TEXT_MESSAGE then heard_map (λ values. User (users.Text (text_message_of values)))
    (read text_message payload)
    else if kind == ACL then heard_map (λ values. Tree (channels.Acl (acl_of values))) (read acl payload)
    else if kind
    == VOICE_TARGET then heard_map (λ values. User (users.Target (voice_target_of values)))
    (read voice_target payload)
    else heard_map (λ values. User (users.Query (permission_query_of values))) (read permission_query payload)
