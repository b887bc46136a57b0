-- The limits of a policy.
use Rattle.std.specs.Prelude.{◌||◌, nat_lt, Bool, false, length}
use Rattle.std.specs.List.{list_any}
use Rattle.mum_base.specs.declared.name.TheConstants.{NAME_LIMIT}
use Rattle.mum_policy.specs.declared.policy.{ChannelPolicy.ChannelPolicy, Group.Group as GroupRow}
use Rattle.mum_policy.specs.declared.policy.TheConstants.{ENTRIES, GROUPS, GROUP_ACCOUNTS}
use Rattle.mum_policy.specs.declared.policy.Whom.{Whom, TheVariants.Account, TheVariants.Group}

-- it adds or removes more accounts than a group may
abbrev pub is_large_group : GroupRow → Bool
is_large_group group =
    nat_lt GROUP_ACCOUNTS (length group.add) || nat_lt GROUP_ACCOUNTS (length group.remove)

-- its group name is longer than one may be
abbrev pub is_long_whom : Whom → Bool
is_long_whom (Account account) = false
is_long_whom (Group name) = nat_lt NAME_LIMIT (length name)

-- it is above one of the limits
abbrev pub is_large_policy : ChannelPolicy → Bool
is_large_policy policy =
    nat_lt GROUPS (length policy.groups)
    || nat_lt ENTRIES (length policy.acls)
    || list_any is_large_group policy.groups
    || list_any (λ entry. is_long_whom entry.whom) policy.acls
