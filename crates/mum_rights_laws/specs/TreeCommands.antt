-- What is said of each accepted message on channels: by whom it is, and of which channel.
use Rattle.std.specs.Prelude.{◌≡◌, Some}
use Rattle.mum_base.specs.declared.number.{ChannelId.ChannelId, SessionId.SessionId}
use Rattle.mum_users.specs.Sessions.{session_of}
use Rattle.mum_users.specs.declared.user.User.{User}
use Rattle.mum_msg_state.specs.declared.channel_remove.ChannelRemove.{ChannelRemove}
use Rattle.mum_msg_state.specs.declared.channel_state.ChannelState.{ChannelState}
use Rattle.mum_msg_rule.specs.declared.acl.Acl.{Acl as AclMessage}
use Rattle.mum_state.specs.{Applied.applied, Proper.IsProper, State.StateValue}
use Rattle.mum_state.specs.declared.{edit.Edit.Edit, verdict.Verdict.TheVariants.Accepted}
use Rattle.mum_rules_tree.specs.Verdict.{tree_verdict}
use Rattle.mum_rules_tree.specs.declared.message.TreeMessage.{TreeMessage}
use Rattle.mum_rules_tree.specs.declared.message.TreeMessage.TheVariants.{Acl, Remove, State}

-- this holds of each message on channels that is accepted of a session in a proper state: of the state before and the
-- state after, the session, which is there, and the message
abbrev pub OfTreeCommands : (StateValue → StateValue → User → TreeMessage → Type 0) → Type 0
OfTreeCommands Holds =
    (before : StateValue) (actor : SessionId) (message : TreeMessage) (edit : Edit) → IsProper before
    → tree_verdict before actor message ≡ Accepted edit
    → (own : User) × (session_of before.roster actor ≡ Some own) × Holds before (applied before edit) own message

-- the message is a ChannelState that names this channel
abbrev pub AsksToChange : TreeMessage → ChannelId → ChannelState → Type 0
AsksToChange message id asked = (message ≡ State asked) × (asked.channel_id ≡ Some id.0)

-- the message asks that this channel be removed
abbrev pub AsksToRemove : TreeMessage → ChannelId → Type 0
AsksToRemove message id = (asked : ChannelRemove) × (message ≡ Remove asked) × (asked.channel_id ≡ Some id.0)

-- the message is for the groups and the access control list of this channel
abbrev pub AsksForPolicy : TreeMessage → ChannelId → Type 0
AsksForPolicy message id = (asked : AclMessage) × (message ≡ Acl asked) × (asked.channel_id ≡ Some id.0)
