-- Where a state has its sessions and channels.
use Rattle.std.specs.Prelude.{ℕ, slice_index_or}
use Rattle.std.specs.Option.{option_map_or}
use Rattle.mum_base.specs.declared.number.{ChannelId.ChannelId, SessionId.SessionId}
use Rattle.mum_tree.specs.Rows.{row_of}
use Rattle.mum_users.specs.Sessions.{session_of}
use Rattle.mum_state.specs.State.{StateValue}

-- the slot of a session that is there
abbrev pub slot_of : StateValue → SessionId → ℕ
slot_of state session = option_map_or (λ user. user.slot.0) (session_of state.roster session) 0

-- the place of a channel that is there
abbrev pub place_of : StateValue → ChannelId → ℕ
place_of state channel = option_map_or (λ row. row.place) (row_of state.tree.channels channel) 0

-- the count of a slot
abbrev pub count_of : StateValue → ℕ → ℕ
count_of state slot = slice_index_or state.counts.slots slot 0
