-- What the entries of a configuration say: accounts, channels with their policies, and links.
use Rattle.std.specs.Prelude.{◌≡◌, ◌≢◌, ℕ, pos, true, false, List, [], Option, Some, None, codes}
use Rattle.serde_json.specs.Data.{Data, array, item, no_items}
use Rattle.serde_json.specs.Find.{get}
use Rattle.mum_base.specs.declared.{number.AccountId.AccountId, number.ChannelId.ChannelId, perm.Perm.Perm}
use Rattle.mum_policy.specs.declared.policy.{AclEntry.AclEntry, ChannelPolicy.ChannelPolicy, Group.Group as GroupRow}
use Rattle.mum_policy.specs.declared.policy.Whom.{Whom, TheVariants.Account, TheVariants.Group}
use Rattle.mum_tree.specs.declared.channel.{Channel.Channel, ChannelInfo.ChannelInfo}
use Rattle.mum_state.specs.declared.account.Account.{Account as AccountRow}
use Rattle.mum_config_laws.specs.Values.{IsAccountNumber, IsDigest, IsFlag, IsListOf, IsNumber, IsSet, IsSigned, IsText, Says, SaysOr}

-- ---- accounts

pub record SaysAccount (value : Data) (account : AccountRow) : Type 0 where
  pub id : Says IsAccountNumber (get (codes "id") value) account.account
  pub name : Says IsText (get (codes "name") value) account.name
  pub digest : Says IsDigest (get (codes "password_sha256") value) account.digest

-- ---- policies

pub record SaysGroup (value : Data) (group : GroupRow) : Type 0 where
  pub name : Says IsText (get (codes "name") value) group.name
  pub inherit : SaysOr IsFlag true (get (codes "inherit") value) group.inherit
  pub inheritable : SaysOr IsFlag true (get (codes "inheritable") value) group.inheritable
  pub add : SaysOr (IsListOf IsAccountNumber) [] (get (codes "add") value) group.add
  pub remove : SaysOr (IsListOf IsAccountNumber) [] (get (codes "remove") value) group.remove

-- the account, if one is given, or else the group
abbrev pub SaysWhom : Option Data → Option Data → Whom → Type 0
SaysWhom (Some value) group whom = (account : AccountId) × IsAccountNumber value account × (whom ≡ Account account)
SaysWhom None group whom = (name : List ℕ) × Says IsText group name × (whom ≡ Group name)

abbrev pub no_permission : Perm
no_permission = record { 0 = 0 }

pub record SaysEntry (value : Data) (entry : AclEntry) : Type 0 where
  pub whom : SaysWhom (get (codes "account") value) (get (codes "group") value) entry.whom
  pub here : SaysOr IsFlag true (get (codes "here") value) entry.here
  pub subs : SaysOr IsFlag true (get (codes "subs") value) entry.subs
  pub grant : SaysOr IsSet no_permission (get (codes "grant") value) entry.grant
  pub deny : SaysOr IsSet no_permission (get (codes "deny") value) entry.deny

pub record SaysPolicy (value : Data) (policy : ChannelPolicy) : Type 0 where
  pub inherit_acls : SaysOr IsFlag true (get (codes "inherit_acls") value) policy.inherit_acls
  pub groups : SaysOr (IsListOf SaysGroup) [] (get (codes "groups") value) policy.groups
  pub acls : SaysOr (IsListOf SaysEntry) [] (get (codes "acls") value) policy.acls

-- ---- channels

abbrev pub IsOf : Data → ChannelId → Type 0
IsOf value id = Says IsNumber (get (codes "id") value) id.0

pub record SaysInfo (value : Data) (info : ChannelInfo) : Type 0 where
  pub description : SaysOr IsText [] (get (codes "description") value) info.description
  pub position : SaysOr IsSigned (pos 0) (get (codes "position") value) info.position
  pub max_users : SaysOr IsNumber 0 (get (codes "max_users") value) info.max_users

-- the root, whose number is 0, has its own name and parent
pub record SaysChannel (value : Data) (channel : Channel) : Type 0 where
  pub id : IsOf value channel.id
  pub parent : channel.id.0 ≢ 0 → Says IsNumber (get (codes "parent") value) channel.parent.0
  pub name : channel.id.0 ≢ 0 → Says IsText (get (codes "name") value) channel.name
  pub lasts : channel.temporary ≡ false
  pub info : SaysInfo value channel.info

-- ---- links

-- a list of two numbers
pub record SaysLink (value : Data) (one other : ChannelId) : Type 0 where
  pub first : Data
  pub second : Data
  pub two : value ≡ array (item first (item second no_items))
  pub from : IsNumber first one.0
  pub to : IsNumber second other.0
