-- What each command on channels is where nothing forbids it: an edit, or an answer.
use Rattle.std.specs.Prelude.{pos, Some, unwrap_or}
use Rattle.std.specs.Option.{option_map_or}
use Rattle.mum_base.specs.declared.number.{ChannelId.ChannelId, SessionId.SessionId}
use Rattle.mum_base.specs.declared.outcome.Reason.TheVariants.{NotThere}
use Rattle.mum_base.specs.Codes.{reason_code}
use Rattle.mum_frame.specs.declared.{frame.Frame.Frame, kind.TheConstants.ACL}
use Rattle.mum_fields.specs.Table.{spelled}
use Rattle.mum_policy.specs.declared.policy.ChannelPolicy.{ChannelPolicy}
use Rattle.mum_tree.specs.declared.channel.ChannelInfo.{ChannelInfo}
use Rattle.mum_tree.specs.State.{TreeState}
use Rattle.mum_msg_state.specs.declared.channel_state.ChannelState.{ChannelState}
use Rattle.mum_msg_rule.specs.Messages.{acl}
use Rattle.mum_state.specs.declared.{edit.Edit.Edit, verdict.Verdict.Verdict}
use Rattle.mum_state.specs.declared.verdict.Verdict.TheVariants.{Accepted, Answer, Ignored}
use Rattle.mum_state.specs.declared.edit.Edit.TheVariants.{EditChannel, MakeChannel, RemoveChannel, SetAcl}
use Rattle.mum_state.specs.State.{StateValue, policy_of}
use Rattle.mum_rules_tree.specs.Asked.{Command, is_to_be_temporary, new_name, new_parent, others, parent_of_new, text_or_empty}
use Rattle.mum_rules_tree.specs.{Limits.new_number, Policy.acl_told, Policy.policy_asked}

-- what is not said of a new channel is empty, or 0
abbrev pub info_of_new : ChannelState → ChannelInfo
info_of_new message = record {
  description = text_or_empty message.description;
  position = unwrap_or message.position (pos 0);
  max_users = unwrap_or message.max_users 0;
}

abbrev pub edit_to_make : TreeState → SessionId → ChannelState → Edit
edit_to_make tree actor message =
    MakeChannel (new_number tree) (parent_of_new message) (text_or_empty message.name) (is_to_be_temporary message)
    (info_of_new message) (Some actor)

abbrev pub edit_to_change : TreeState → SessionId → ChannelId → ChannelState → Edit
edit_to_change tree actor id message =
    EditChannel id (Some actor) (new_name tree id message)
    (new_parent tree id message) message.description message.position message.max_users
    (others id message.links_add) (others id message.links_remove)

-- the ACL message that reports a channel's policy
unfoldable pub answer_frame : ChannelId → ChannelPolicy → Frame
answer_frame id policy = record { kind = ACL; payload = spelled acl (acl_told id policy) }

-- each channel that is there has a policy
abbrev pub answer_to_query : StateValue → ChannelId → Verdict
answer_to_query state id = option_map_or (λ policy. Answer (answer_frame id policy)) (policy_of state id) (Ignored (reason_code NotThere))

abbrev pub outcome : StateValue → SessionId → Command → Verdict
outcome state actor (Command.make message) = Accepted (edit_to_make state.tree actor message)
outcome state actor (Command.edit id message) = Accepted (edit_to_change state.tree actor id message)
outcome state actor (Command.remove id) = Accepted (RemoveChannel id actor)
outcome state actor (Command.query id) = answer_to_query state id
outcome state actor (Command.set id message) = Accepted (SetAcl id (Some actor) (policy_asked message))
