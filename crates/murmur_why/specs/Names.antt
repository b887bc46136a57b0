-- Sessions, channels and entries of access control lists, each by its number and, after it, its name.
use Rattle.std.specs.Prelude.{ℕ, List, [], ◌∷◌, ◌++◌, codes, decimal, Option, slice_get, option_and_then}
use Rattle.std.specs.Option.{option_map_or}
use Rattle.mum_base.specs.declared.number.{ChannelId.ChannelId, SessionId.SessionId}
use Rattle.mum_policy.specs.declared.policy.{AclEntry.AclEntry, Whom.Whom}
use Rattle.mum_policy.specs.declared.policy.Whom.TheVariants.{Account, Group}
use Rattle.mum_tree.specs.Rows.{row_of}
use Rattle.mum_users.specs.Sessions.{session_of}
use Rattle.mum_state.specs.State.{StateValue, policy_of}

-- a session that is there has a name
abbrev pub session_text : StateValue → SessionId → List ℕ
session_text state session =
    decimal session.0 ++ option_map_or (λ user. 32 ∷ user.name) (session_of state.roster session) []

-- so has a channel
abbrev pub channel_text : StateValue → ChannelId → List ℕ
channel_text state channel =
    decimal channel.0 ++ option_map_or (λ row. 32 ∷ row.channel.name) (row_of state.tree.channels channel) []

-- whom an entry is for
abbrev pub whom_text : Whom → List ℕ
whom_text (Account account) = codes " (account " ++ decimal account.0 ++ codes ")"
whom_text (Group name) = codes " (group " ++ name ++ codes ")"

-- the entry at a place of the access control list of a channel
abbrev pub entry_at : StateValue → ChannelId → ℕ → Option AclEntry
entry_at state channel index = option_and_then (λ policy. slice_get policy.acls index) (policy_of state channel)

-- its place and its channel
abbrev pub place_text : StateValue → ChannelId → ℕ → List ℕ
place_text state channel index = decimal index ++ codes " of " ++ channel_text state channel

-- and whom it is for
abbrev pub entry_text : StateValue → ChannelId → ℕ → List ℕ
entry_text state channel index =
    place_text state channel index ++ option_map_or (λ entry. whom_text entry.whom) (entry_at state channel index) []
