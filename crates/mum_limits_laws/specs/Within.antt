-- How much there is of each thing, at the most, by the numbers themselves.
use Rattle.std.specs.Prelude.{◌≡◌, ◌≤◌, ◌<◌, ◌==◌, length, sum_by, Some}
use Rattle.std.specs.List.{All, count_by}
use Rattle.mum_base.specs.declared.number.{ChannelId.ChannelId, SessionId.SessionId}
use Rattle.mum_policy.specs.declared.policy.ChannelPolicy.{ChannelPolicy}
use Rattle.mum_tree.specs.Rows.{path}
use Rattle.mum_users.specs.declared.{target.TargetRow.TargetRow, user.User.User}
use Rattle.mum_state.specs.{Applied.applied, Proper.IsProper, State.StateValue}
use Rattle.mum_state.specs.declared.{edit.Edit.Edit, verdict.Verdict.TheVariants.Accepted}
use Rattle.mum_rules_tree.specs.Verdict.{tree_verdict}
use Rattle.mum_rules_tree.specs.declared.message.TreeMessage.{TreeMessage}
use Rattle.mum_rules_user.specs.Verdict.{user_verdict}
use Rattle.mum_rules_user.specs.declared.message.UserMessage.{UserMessage}

-- ---- channels

-- of a list 128 entries and 64 groups, and of a group 256 accounts that it adds and as many that it removes
pub record IsSmallPolicy (policy : ChannelPolicy) : Type 0 where
  pub acls : length policy.acls ≤ 128
  pub groups : length policy.groups ≤ 64
  pub accounts : All (λ group. (length group.add ≤ 256) × (length group.remove ≤ 256)) policy.groups
  pub names : All (λ group. length group.name ≤ 128) policy.groups

pub record AreFewChannels (state : StateValue) : Type 0 where
  pub channels : length state.tree.channels ≤ state.tree.limit
  pub most : state.tree.limit ≤ 2048
  -- the root is one of them
  pub depth : (id : ChannelId) → length (path state.tree.channels id) ≤ 33
  pub names : All (λ row. (0 < length row.channel.name) × (length row.channel.name ≤ 128)) state.tree.channels
  pub descriptions : All (λ row. length row.channel.info.description ≤ 20000) state.tree.channels
  pub links : (id : ChannelId) → count_by (λ pair. pair.0.0 == id.0) state.tree.links ≤ 64
  pub policies : All (λ row. IsSmallPolicy row.policy) state.policies

-- ---- sessions

pub record IsSmallUser (user : User) : Type 0 where
  pub name : length user.name ≤ 128
  pub tokens : length user.tokens ≤ 64
  pub bytes : All (λ token. length token ≤ 128) user.tokens
  pub comment : length user.comment ≤ 20000
  pub context : length user.context ≤ 1024

-- a voice target has a number from 1 to 30, 16 items at the most, and over all of them 128 sessions
pub record IsSmallTarget (row : TargetRow) : Type 0 where
  pub id : (0 < row.id) × (row.id ≤ 30)
  pub items : length row.target.items ≤ 16
  pub sessions : sum_by (λ item. length item.sessions) row.target.items ≤ 128
  pub groups : All (λ item. length item.group ≤ 128) row.target.items

pub record AreFewSessions (state : StateValue) : Type 0 where
  pub sessions : length state.roster.sessions ≤ state.roster.limit
  pub most : state.roster.limit ≤ 512
  pub users : All IsSmallUser state.roster.sessions
  pub listeners : (channel : ChannelId) → count_by (λ pair. pair.channel.0 == channel.0) state.roster.listeners ≤ 64
  pub listened : (session : SessionId) → count_by (λ pair. pair.session.0 == session.0) state.roster.listeners ≤ 32
  pub targets : All IsSmallTarget state.roster.targets

-- ---- all of it

pub record IsWithin (state : StateValue) : Type 0 where
  pub welcome : length state.server.welcome ≤ 20000
  pub accounts : length state.accounts ≤ 1024
  pub channels : AreFewChannels state
  pub sessions : AreFewSessions state

abbrev pub ValidStatesAreWithin : Type 0
ValidStatesAreWithin = (state : StateValue) → IsProper state → IsWithin state

abbrev pub TreeCommandsKeepWithin : Type 0
TreeCommandsKeepWithin =
    (state : StateValue) (actor : SessionId) (message : TreeMessage) (edit : Edit) → IsProper state
    → tree_verdict state actor message ≡ Accepted edit → IsWithin (applied state edit)

abbrev pub UserCommandsKeepWithin : Type 0
UserCommandsKeepWithin =
    (state : StateValue) (actor : SessionId) (message : UserMessage) (edit : Edit) → IsProper state
    → user_verdict state (Some actor) message ≡ Accepted edit → IsWithin (applied state edit)
