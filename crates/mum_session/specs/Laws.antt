-- What holds of every command, whichever rules decide it, and of lists of bans.
use Rattle.std.specs.Prelude.{◌≡◌, ◌⊎◌, ℕ, ◌&&◌, ◌||◌, Bool, true, false, List, Some, IsTrue}
use Rattle.std.specs.List.{list_any}
use Rattle.mum_base.specs.declared.number.{ChannelId.ChannelId, SessionId.SessionId}
use Rattle.mum_base.specs.declared.perm.TheConstants.Perm.{ENTER, MOVE}
use Rattle.mum_policy.specs.Member.{Actor}
use Rattle.mum_tree.specs.declared.channel.ChannelInfo.{ChannelInfo}
use Rattle.mum_tree.specs.{Refusals.parent_of, Rows.is_below}
use Rattle.mum_users.specs.State.{has_number, is_in}
use Rattle.mum_state.specs.declared.edit.Edit.{Edit, TheVariants.MakeChannel, TheVariants.RemoveChannel}
use Rattle.mum_state.specs.declared.verdict.Verdict.TheVariants.{Accepted}
use Rattle.mum_state.specs.{Applied.applied, State.StateValue}
use Rattle.mum_rules_tree.specs.{Decision.is_open, Decision.way, Verdict.actor_named}
use Rattle.mum_rules_user.specs.Verdict.{actor_for}
use Rattle.mum_session.specs.declared.command.Asked.{Asked, TheVariants.Tree, TheVariants.User}
use Rattle.mum_session.specs.declared.action.TheConstants.{BAN_LIST}
use Rattle.mum_session.specs.{Machine.Machine, Machine.session_of, Verdict.verdict}

-- a frame brings a list of bans of a connection that is logged in and may send one, with this payload
pub record SendsBans (machine : Machine) (kind : ℕ) (payload sent : List ℕ) : Type 0 where
  pub may_send : machine.bans ≡ true
  pub session : SessionId
  pub logged_in : session_of machine.stage ≡ Some session
  pub kind_is : kind ≡ BAN_LIST
  pub payload_is : sent ≡ payload

-- the session is in the channel
abbrev pub is_member : StateValue → SessionId → ChannelId → Bool
is_member state session channel = list_any (λ user. has_number session user && is_in channel user) state.roster.sessions

-- the session is in the channel or below it
abbrev pub is_member_below : StateValue → SessionId → ChannelId → Bool
is_member_below state session channel =
    list_any (λ user. has_number session user
    && is_below state.tree.channels channel user.channel) state.roster.sessions

-- the session as the needs of its command see it: with the tokens that the command brings
abbrev pub actor_of : StateValue → SessionId → Asked → Actor
actor_of state session (Tree message) = actor_named state session
actor_of state session (User message) = actor_for state session message

-- the actor has Enter or Move in the channel
abbrev pub may_enter : StateValue → Actor → ChannelId → Bool
may_enter state who channel = is_open state (way who ENTER channel) || is_open state (way who MOVE channel)

-- the edit makes this channel, a temporary one, for the session
abbrev pub MakesItsOwn : Edit → SessionId → ChannelId → Type 0
MakesItsOwn edit session channel =
    (parent : ChannelId) × (name : List ℕ) × (info : ChannelInfo)
    × (edit ≡ MakeChannel channel parent name true info (Some session))

-- the edit removes a channel, in or below which the session is, and this is the parent of the one removed
abbrev pub RemovesAround : StateValue → Edit → SessionId → ChannelId → Type 0
RemovesAround state edit session channel =
    (removed : ChannelId) × (edit ≡ RemoveChannel removed session)
    × (channel ≡ parent_of state.tree removed) × IsTrue (is_member_below state session removed)

-- a session enters a channel by a command of its own only where it has Enter or Move; or it is the temporary channel that
-- it makes, or the parent of one that it removes from around itself
abbrev pub EntersWherePermitted : Type 0
EntersWherePermitted =
    (state : StateValue) (session : SessionId) (command : Asked) (edit : Edit) (channel : ChannelId)
    → verdict state (Some session) command ≡ Accepted edit
    → is_member state session channel ≡ false → is_member (applied state edit) session channel ≡ true
    → IsTrue (may_enter state (actor_of state session command) channel) ⊎ MakesItsOwn edit session channel
    ⊎ RemovesAround state edit session channel
