-- What holds of every state.
use Rattle.std.specs.Prelude.{◌≡◌, ◌≢◌, ℕ, ◌+◌, ◌≤◌, ◌&&◌, not, Bool, List, length, map, is_none, nat_le, IsTrue}
use Rattle.std.specs.List.{list_all, All, AllPairs}
use Rattle.mum_base.specs.Name.{name_fault, text_fault}
use Rattle.mum_base.specs.declared.{name.TheConstants.NAME_LIMIT, perm.Perm.Perm, perm.TheConstants.Perm.ALL}
use Rattle.mum_base.specs.declared.number.TheConstants.{SLOTS}
use Rattle.mum_policy.specs.declared.policy.{AclEntry.AclEntry, ChannelPolicy.ChannelPolicy}
use Rattle.mum_policy.specs.{Limits.is_large_policy, Walk.holds}
use Rattle.mum_tree.specs.{Proper.IsProper as IsProperTree, Rows.is_there}
use Rattle.mum_tree.specs.declared.channel.Row.{Row}
use Rattle.mum_users.specs.{Order.Rises, Proper.IsProper as IsProperRoster, State.are_tokens, State.is_context}
use Rattle.mum_users.specs.declared.user.User.{User}
use Rattle.mum_state.specs.declared.account.{Account.Account, TheConstants.ACCOUNT_LIMIT}
use Rattle.mum_state.specs.declared.count.TheConstants.{EDIT_LIMIT}
use Rattle.mum_state.specs.State.{Counts, StateValue, account_below}

-- a name of a channel or a group, and a text, that would not be refused
abbrev pub is_name : List ℕ → Bool
is_name name = is_none (name_fault name)

abbrev pub is_text : List ℕ → Bool
is_text text = is_none (text_fault text)

-- a name of a session or an account that is not too long
abbrev pub is_short : List ℕ → Bool
is_short name = nat_le (length name) NAME_LIMIT

-- only permissions that there are
abbrev pub are_permissions : Perm → Bool
are_permissions set = holds ALL.0 set.0

abbrev pub is_sound_entry : AclEntry → Bool
is_sound_entry entry = are_permissions entry.grant && are_permissions entry.deny

-- within the limits, with good names of groups, and only permissions that there are
abbrev pub is_sound_policy : ChannelPolicy → Bool
is_sound_policy policy =
    not (is_large_policy policy) && list_all (λ group. is_name group.name) policy.groups
    && list_all is_sound_entry policy.acls

abbrev pub is_sound_channel : Row → Bool
is_sound_channel row = is_name row.channel.name && is_text row.channel.info.description

-- its name, its tokens, its comment and its context are within the limits
abbrev pub is_sound_user : User → Bool
is_sound_user user = is_short user.name && are_tokens user.tokens && is_text user.comment && is_context user.context

-- they have two numbers
abbrev pub AreApart : Account → Account → Type 0
AreApart account other = account.account.0 ≢ other.account.0

-- no count is far above the revision: what a configuration adds is bounded
abbrev pub IsNear : ℕ → ℕ → Type 0
IsNear revision count = count ≤ revision + EDIT_LIMIT

-- each slot that there may be has its count, whatever the limit of sessions is
pub record AreCounts (counts : Counts) : Type 0 where
  pub revision : counts.revision ≤ EDIT_LIMIT
  pub policy : IsNear counts.revision counts.policy
  pub routing : IsNear counts.revision counts.routing
  pub each : All (IsNear counts.revision) counts.slots
  pub one_each : length counts.slots ≡ SLOTS

pub record IsProper (state : StateValue) : Type 0 where
  pub welcome : IsTrue (is_text state.server.welcome)
  -- no two accounts have one name or one number
  pub names : Rises account_below state.accounts
  pub accounts : AllPairs AreApart state.accounts
  pub few_accounts : length state.accounts ≤ ACCOUNT_LIMIT
  pub short_names : IsTrue (list_all (λ account. is_short account.name) state.accounts)
  pub tree : IsProperTree state.tree
  pub channels : IsTrue (list_all is_sound_channel state.tree.channels)
  -- each channel has one policy, and nothing else has one
  pub policies : map (λ row. row.channel) state.policies ≡ map (λ row. row.channel.id) state.tree.channels
  pub sound_policies : IsTrue (list_all (λ row. is_sound_policy row.policy) state.policies)
  pub roster : IsProperRoster state.roster
  pub users : IsTrue (list_all is_sound_user state.roster.sessions)
  -- sessions are in channels, and listen to channels, that are there
  pub inside : IsTrue (list_all (λ user. is_there state.tree.channels user.channel) state.roster.sessions)
  pub listening : IsTrue (list_all (λ pair. is_there state.tree.channels pair.channel) state.roster.listeners)
  pub counts : AreCounts state.counts
