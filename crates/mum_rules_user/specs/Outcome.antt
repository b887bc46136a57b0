-- What each command on users is where nothing forbids it: an edit, or an answer.
use Rattle.std.specs.Prelude.{ℕ, map, Some, None}
use Rattle.std.specs.Option.{option_map_or}
use Rattle.mum_base.specs.declared.number.{ChannelId.ChannelId, SessionId.SessionId}
use Rattle.mum_base.specs.declared.outcome.Reason.TheVariants.{NotThere}
use Rattle.mum_base.specs.Codes.{reason_code}
use Rattle.mum_frame.specs.declared.{frame.Frame.Frame, kind.TheConstants.PERMISSION_QUERY}
use Rattle.mum_fields.specs.Table.{spelled}
use Rattle.mum_policy.specs.Member.{Actor}
use Rattle.mum_users.specs.State.{RosterState}
use Rattle.mum_msg_state.specs.declared.{user_remove.UserRemove.UserRemove, user_state.UserState.UserState}
use Rattle.mum_msg_rule.specs.declared.permission_query.PermissionQuery.{PermissionQuery}
use Rattle.mum_msg_rule.specs.declared.text_message.TextMessage.{TextMessage}
use Rattle.mum_msg_rule.specs.Messages.{permission_query}
use Rattle.mum_state.specs.declared.{edit.Edit.Edit, verdict.Verdict.Verdict}
use Rattle.mum_state.specs.declared.verdict.Verdict.TheVariants.{Accepted, Answer, Ignored}
use Rattle.mum_state.specs.declared.edit.Edit.TheVariants.{Kick, Leave, SetTarget, SetTokens, SetUser, Text}
use Rattle.mum_state.specs.{Permissions.granted_where_there, State.StateValue}
use Rattle.mum_rules_tree.specs.Asked.{text_or_empty}
use Rattle.mum_rules_user.specs.Asked.{Command, channels, clears_suppression, new_channel, number_of_target, session_numbered, target_asked}
use Rattle.mum_rules_user.specs.{Login.tokens_kept, Needs.is_ban}

abbrev pub edit_to_change : RosterState → SessionId → SessionId → UserState → Edit
edit_to_change roster actor session message =
    SetUser session actor (new_channel roster session message) message.mute message.deaf (clears_suppression message) message.priority_speaker
    message.self_mute message.self_deaf message.recording message.comment message.plugin_context
    (channels message.listening_channel_add) (channels message.listening_channel_remove)

abbrev pub edit_to_kick : SessionId → SessionId → UserRemove → Edit
edit_to_kick actor session message = Kick session actor (text_or_empty message.reason) (is_ban message)

abbrev pub edit_to_tell : SessionId → TextMessage → Edit
edit_to_tell actor message =
    Text actor (map session_numbered message.session) (channels message.channel_id) (channels message.tree_id)
    (text_or_empty message.message)

-- what is reported of permissions: the channel and the set, and nothing else
abbrev pub permissions_told : ChannelId → ℕ → PermissionQuery
permissions_told id held = record { channel_id = Some id.0; permissions = Some held; flush = None }

unfoldable pub answer_frame : ChannelId → ℕ → Frame
answer_frame id held = record { kind = PERMISSION_QUERY; payload = spelled permission_query (permissions_told id held) }

-- what the actor may do in the channel, which is there
abbrev pub answer_to_query : StateValue → Actor → ChannelId → Verdict
answer_to_query state who id =
    option_map_or (λ held. Answer (answer_frame id held)) (granted_where_there state who id) (Ignored (reason_code NotThere))

abbrev pub outcome : StateValue → Actor → SessionId → Command → Verdict
outcome state who actor (Command.renew message) = Accepted (SetTokens actor (tokens_kept message.tokens))
outcome state who actor (Command.change session message) = Accepted (edit_to_change state.roster actor session message)
outcome state who actor (Command.kick session message) = Accepted (edit_to_kick actor session message)
outcome state who actor (Command.text message) = Accepted (edit_to_tell actor message)
outcome state who actor (Command.target message) =
    Accepted (SetTarget actor (number_of_target message) (target_asked message))
outcome state who actor (Command.query id) = answer_to_query state who id
outcome state who actor Command.leave = Accepted (Leave actor)
