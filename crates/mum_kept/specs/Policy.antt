-- The policy of a channel as bytes: the payload of the ACL message that answers a query for it.
use Rattle.std.specs.Prelude.{ℕ, ◌==◌, ◌&&◌, not, Bool, false, List, Option, Some, None, Result, Ok, Err, unwrap_or}
use Rattle.std.specs.{List.list_all, Option.option_map_or}
use Rattle.mum_base.specs.declared.{number.ChannelId.ChannelId, perm.TheConstants.Perm.ALL}
use Rattle.mum_fields.specs.Table.{Values, decoded, layout, spelled}
use Rattle.mum_fields.specs.declared.message.MessageFault.{MessageFault}
use Rattle.mum_policy.specs.declared.policy.ChannelPolicy.{ChannelPolicy}
use Rattle.mum_policy.specs.Walk.{holds}
use Rattle.mum_msg_rule.specs.declared.{acl.Acl.Acl, acl_line.AclLine.AclLine}
use Rattle.mum_msg_rule.specs.{Messages.acl, Parts.acl_of}
use Rattle.mum_state.specs.{Proper.is_sound_policy, State.open_policy}
use Rattle.mum_rules_tree.specs.Policy.{acl_told, policy_asked}

-- what answers a query for the policy of the channel
abbrev pub policy_payload : ChannelId → ChannelPolicy → List ℕ
policy_payload id policy = spelled acl (acl_told id policy)

-- the message that has these values, if they were decoded
abbrev pub message_if_decoded : Result (Values (layout acl)) MessageFault → Option Acl
message_if_decoded (Ok values) = Some (acl_of values)
message_if_decoded (Err fault) = None

-- the ACL message that a payload is, if it is one
abbrev pub message_in : List ℕ → Option Acl
message_in payload = message_if_decoded (decoded acl payload)

-- the bits, 0 where none are given, are of permissions that exist
abbrev pub are_known_bits : Option ℕ → Bool
are_known_bits bits = holds ALL.0 (unwrap_or bits 0)

abbrev pub has_known_bits : AclLine → Bool
has_known_bits line = are_known_bits line.grant && are_known_bits line.deny

-- the message is about this channel
abbrev pub is_about : ChannelId → Acl → Bool
is_about id message = option_map_or (λ number. number == id.0) message.channel_id false

-- the message answers a query for the policy of the channel: a policy that a channel may have, with no bit that is no
-- permission's
abbrev pub is_answer_of : ChannelId → Acl → Bool
is_answer_of id message =
    is_about id message && not (unwrap_or message.query false)
    && list_all has_known_bits message.acls && is_sound_policy (policy_asked message)

-- the payload is such an answer
abbrev pub holds_policy : ChannelId → List ℕ → Bool
holds_policy id payload = option_map_or (is_answer_of id) (message_in payload) false

-- the policy that the payload holds; an open one where it is no message
abbrev pub policy_in : List ℕ → ChannelPolicy
policy_in payload = option_map_or policy_asked (message_in payload) open_policy
