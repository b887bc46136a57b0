-- What each edit sets, before what follows from it.
use Rattle.std.specs.Prelude.{ℕ, ◌==◌, Bool, List, [], ◌∷◌, ◌++◌, not, filter, map, Option, Some, None, if◌then◌else◌}
use Rattle.mum_base.specs.declared.number.{ChannelId.ChannelId, SessionId.SessionId}
use Rattle.mum_policy.specs.declared.policy.ChannelPolicy.{ChannelPolicy}
use Rattle.mum_tree.specs.{Change.with_change, Refusals.parent_of, Rows.is_below, Rows.is_there}
use Rattle.mum_tree.specs.State.{TreeState, with_info, with_new, without_subtree}
use Rattle.mum_users.specs.declared.user.User.{User}
use Rattle.mum_users.specs.{Edit.edited, Listeners.without_channels, Targets.targeted}
use Rattle.mum_users.specs.Sessions.{joined, left, placed, with_tokens}
use Rattle.mum_state.specs.declared.edit.Edit.{Edit}
use Rattle.mum_state.specs.declared.edit.Edit.TheVariants.{AddAccount, Join, Kick, Leave, MakeChannel, RemoveChannel, SetAcl, SetLimits, SetServer, SetTarget, SetTokens}
use Rattle.mum_state.specs.Parts.{by_parts}
use Rattle.mum_state.specs.State.{PolicyRow, StateValue, policy_row, with_account}

-- the channels are these: policies and listeners of others are gone
abbrev pub with_tree : StateValue → TreeState → StateValue
with_tree state tree = record state {
  tree = tree;
  policies = filter (λ row. is_there tree.channels row.channel) state.policies;
  roster = without_channels state.roster (λ channel. not (is_there tree.channels channel));
}

-- one more, with a policy that is open
abbrev pub with_made : StateValue → TreeState → ChannelId → StateValue
with_made state tree id = record state { tree = tree; policies = state.policies ++ policy_row id ∷ [] }

-- the maker of a temporary channel enters it
abbrev pub with_maker_in : StateValue → ChannelId → Bool → Option SessionId → StateValue
with_maker_in state id temporary None = state
with_maker_in state id temporary (Some maker) =
    if temporary then record state { roster = placed state.roster maker id } else state

-- who is in the channel or below it is in its parent
abbrev pub moved_up : TreeState → ChannelId → User → User
moved_up tree id user =
    if is_below tree.channels id user.channel then record user { channel = parent_of tree id } else user

abbrev pub with_members_moved_up : StateValue → ChannelId → StateValue
with_members_moved_up state id =
    record state { roster = record state.roster { sessions = map (moved_up state.tree id) state.roster.sessions } }

-- the row with this policy, if it is the channel's
abbrev pub set_policy : ChannelId → ChannelPolicy → PolicyRow → PolicyRow
set_policy channel policy row = if row.channel.0 == channel.0 then record row { policy = policy } else row

-- the channel has this policy
abbrev pub with_policy : ChannelId → ChannelPolicy → List PolicyRow → List PolicyRow
with_policy channel policy rows = map (set_policy channel policy) rows

-- these are the limits of sessions and of channels
abbrev pub with_limits : StateValue → ℕ → ℕ → StateValue
with_limits state sessions channels = record state {
  tree = record state.tree { limit = channels };
  roster = record state.roster { limit = sessions };
}

abbrev pub set_by : StateValue → Edit → StateValue
set_by state (SetServer welcome bandwidth password) =
    record state { server = record { welcome = welcome; bandwidth = bandwidth; password = password } }
set_by state (SetLimits sessions channels) = with_limits state sessions channels
set_by state (AddAccount account name digest) =
    record state { accounts = with_account (record { account = account; name = name; digest = digest }) state.accounts }
set_by state (Join session slot name account tokens) =
    record state { roster = joined state.roster name account tokens }
set_by state (Leave session) = record state { roster = left state.roster session }
set_by state (Kick session actor reason ban) = record state { roster = left state.roster session }
set_by state (MakeChannel id parent name temporary info maker) =
    with_maker_in
    (with_made state (with_info (with_new state.tree id parent name temporary) id info) id) id temporary maker
set_by state (RemoveChannel id actor) = with_tree (with_members_moved_up state id) (without_subtree state.tree id)
set_by state (SetTokens session tokens) = record state { roster = with_tokens state.roster session tokens }
set_by state (SetTarget session id target) = record state { roster = targeted state.roster session id target }
set_by state (SetAcl channel actor policy) = record state { policies = with_policy channel policy state.policies }
set_by state edit =
    by_parts (λ channel. record state { tree = with_change state.tree channel.channel channel.change })
    (λ user. record state { roster = edited state.roster user.session user.change }) state edit
