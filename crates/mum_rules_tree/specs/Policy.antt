-- The policy that an ACL message sets, and the message that reports one.
use Rattle.std.specs.Prelude.{ℕ, ◌||◌, not, Bool, true, false, List, [], ◌∷◌, map, filter, bit_and, Option, Some, None, unwrap_or}
use Rattle.std.specs.{List.list_any, Option.option_map_or, Str.bytes_eq}
use Rattle.mum_base.specs.declared.{number.AccountId.AccountId, number.ChannelId.ChannelId, perm.Perm.Perm}
use Rattle.mum_base.specs.declared.perm.TheConstants.Perm.{ALL}
use Rattle.mum_policy.specs.declared.policy.{AclEntry.AclEntry, ChannelPolicy.ChannelPolicy, Group.Group as GroupRow}
use Rattle.mum_policy.specs.declared.policy.Whom.{Whom, TheVariants.Account, TheVariants.Group}
use Rattle.mum_msg_rule.specs.declared.{acl.Acl.Acl, acl_group.AclGroup.AclGroup, acl_line.AclLine.AclLine}
use Rattle.mum_rules_tree.specs.Asked.{text_or_empty}

-- ---- what is set

-- only where it says so itself is a group or an entry one of a channel above, and is passed over
abbrev pub is_inherited : Option Bool → Bool
is_inherited said = unwrap_or said false

-- what is not said is true
abbrev pub true_unless_said : Option Bool → Bool
true_unless_said said = unwrap_or said true

abbrev pub account : ℕ → AccountId
account number = record { 0 = number }

abbrev pub accounts : List ℕ → List AccountId
accounts listed = map account listed

abbrev pub group_asked : AclGroup → GroupRow
group_asked group = record {
  name = text_or_empty group.name;
  inherit = true_unless_said group.inherit;
  inheritable = true_unless_said group.inheritable;
  add = accounts group.add;
  remove = accounts group.remove;
}

-- an entry with an account is for that account, and its group says nothing
abbrev pub whom_asked : AclLine → Whom
whom_asked line = option_map_or (λ number. Account (account number)) line.user_id (Group (text_or_empty line.group))

-- the permissions that there are
abbrev pub permissions_among : Option ℕ → Perm
permissions_among bits = record { 0 = bit_and (unwrap_or bits 0) ALL.0 }

abbrev pub entry_asked : AclLine → AclEntry
entry_asked line = record {
  whom = whom_asked line;
  here = true_unless_said line.apply_here;
  subs = true_unless_said line.apply_subs;
  grant = permissions_among line.grant;
  deny = permissions_among line.deny;
}

abbrev pub policy_asked : Acl → ChannelPolicy
policy_asked message = record {
  inherit_acls = true_unless_said message.inherit_acls;
  groups = map group_asked (filter (λ group. not (is_inherited group.inherited)) message.groups);
  acls = map entry_asked (filter (λ line. not (is_inherited line.inherited)) message.acls);
}

-- a name comes again later
abbrev pub has_twice : List (List ℕ) → Bool
has_twice [] = false
has_twice (name ∷ names) = list_any (bytes_eq name) names || has_twice names

-- ---- what is reported

abbrev pub numbers : List AccountId → List ℕ
numbers listed = map (λ one. one.0) listed

abbrev pub group_told : GroupRow → AclGroup
group_told group = record {
  name = Some group.name;
  inherited = Some false;
  inherit = Some group.inherit;
  inheritable = Some group.inheritable;
  add = numbers group.add;
  remove = numbers group.remove;
  inherited_members = [];
}

abbrev pub account_told : Whom → Option ℕ
account_told (Account account) = Some account.0
account_told (Group name) = None

abbrev pub group_name_told : Whom → Option (List ℕ)
group_name_told (Account account) = None
group_name_told (Group name) = Some name

abbrev pub line_told : AclEntry → AclLine
line_told entry = record {
  apply_here = Some entry.here;
  apply_subs = Some entry.subs;
  inherited = Some false;
  user_id = account_told entry.whom;
  group = group_name_told entry.whom;
  grant = Some entry.grant.0;
  deny = Some entry.deny.0;
}

-- the channel's own groups and entries; all is written, also what is as it would be unsaid
abbrev pub acl_told : ChannelId → ChannelPolicy → Acl
acl_told id policy = record {
  channel_id = Some id.0;
  inherit_acls = Some policy.inherit_acls;
  groups = map group_told policy.groups;
  acls = map line_told policy.acls;
  query = None;
}
