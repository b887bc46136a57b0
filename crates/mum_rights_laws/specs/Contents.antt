-- Links and policies are those of the message that sets them.
use Rattle.std.specs.Prelude.{◌≡◌, ◌≢◌, ◌&&◌, ◌||◌, bit_and, not, false, true, [], filter, map, Some, None, unwrap_or}
use Rattle.std.specs.List.{AllZip}
use Rattle.mum_base.specs.declared.number.ChannelId.{ChannelId}
use Rattle.mum_policy.specs.declared.policy.{AclEntry.AclEntry, ChannelPolicy.ChannelPolicy, Group.Group as GroupRow}
use Rattle.mum_policy.specs.declared.policy.Whom.{Whom, TheVariants.Account, TheVariants.Group}
use Rattle.mum_tree.specs.{Rows.is_there, State.are_linked}
use Rattle.mum_msg_state.specs.declared.channel_state.ChannelState.{ChannelState}
use Rattle.mum_msg_rule.specs.declared.{acl.Acl.Acl as AclMessage, acl_group.AclGroup.AclGroup}
use Rattle.mum_msg_rule.specs.declared.acl_line.AclLine.{AclLine}
use Rattle.mum_state.specs.State.{policy_of}
use Rattle.mum_rules_tree.specs.declared.message.TreeMessage.TheVariants.{Acl}
use Rattle.mum_rights_laws.specs.{TreeCommands.AsksToChange, TreeCommands.OfTreeCommands, Listed.is_listed}

-- ---- links

-- The channel that a ChannelState names is linked to another exactly where it was or the message adds it, and where the
-- message does not remove it, as long as both are there.
abbrev pub LinksAreDone : Type 0
LinksAreDone =
    OfTreeCommands
    (λ before after own message. (id other : ChannelId) (asked : ChannelState) → AsksToChange message id asked
    → other.0 ≢ id.0
    → are_linked after.tree id other
    ≡ (((are_linked before.tree id other || is_listed asked.links_add other)
    && not (is_listed asked.links_remove other))
    && is_there after.tree.channels id && is_there after.tree.channels other))

-- ---- policies

pub record IsGroupAsked (asked : AclGroup) (group : GroupRow) : Type 0 where
  pub name : group.name ≡ unwrap_or asked.name []
  pub inherit : group.inherit ≡ unwrap_or asked.inherit true
  pub inheritable : group.inheritable ≡ unwrap_or asked.inheritable true
  pub add : map (λ account. account.0) group.add ≡ asked.add
  pub remove : map (λ account. account.0) group.remove ≡ asked.remove

-- the account, if one is given, or else the group
abbrev pub IsWhomAsked : AclLine → Whom → Type 0
IsWhomAsked asked (Account account) = asked.user_id ≡ Some account.0
IsWhomAsked asked (Group name) = (asked.user_id ≡ None) × (name ≡ unwrap_or asked.group [])

pub record IsEntryAsked (asked : AclLine) (entry : AclEntry) : Type 0 where
  pub whom : IsWhomAsked asked entry.whom
  pub here : entry.here ≡ unwrap_or asked.apply_here true
  pub subs : entry.subs ≡ unwrap_or asked.apply_subs true
  pub grant : entry.grant.0 ≡ bit_and (unwrap_or asked.grant 0) 0x1F0FFF
  pub deny : entry.deny.0 ≡ bit_and (unwrap_or asked.deny 0) 0x1F0FFF

-- what the message says is inherited is of a channel above, and is passed over
pub record IsPolicyAsked (asked : AclMessage) (policy : ChannelPolicy) : Type 0 where
  pub inherit_acls : policy.inherit_acls ≡ unwrap_or asked.inherit_acls true
  pub groups : AllZip IsGroupAsked (filter (λ group. not (unwrap_or group.inherited false)) asked.groups) policy.groups
  pub acls : AllZip IsEntryAsked (filter (λ line. not (unwrap_or line.inherited false)) asked.acls) policy.acls

-- the channel that an ACL message names has the policy of the message, as long as it is there
abbrev pub PoliciesAreDone : Type 0
PoliciesAreDone =
    OfTreeCommands
    (λ before after own message. (id : ChannelId) (asked : AclMessage) → message ≡ Acl asked
    → asked.channel_id ≡ Some id.0
    → is_there after.tree.channels id ≡ true
    → (policy : ChannelPolicy) × (policy_of after id ≡ Some policy) × IsPolicyAsked asked policy)
