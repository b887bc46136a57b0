-- What holds of every roster.
use Rattle.std.specs.Prelude.{◌≡◌, ℕ, ◌+◌, ◌^◌, ◌<◌, ◌≤◌, ◌==◌, ◌&&◌, ◌||◌, not, nat_lt, Bool, List, [], ◌∷◌, length, count_by}
use Rattle.mum_base.specs.declared.number.{SessionId.SessionId, ChannelId.ChannelId, TheConstants.SLOTS}
use Rattle.mum_users.specs.declared.user.User.{User}
use Rattle.mum_users.specs.declared.listening.TheConstants.{CHANNEL_LISTENERS, LISTENED_CHANNELS}
use Rattle.mum_users.specs.declared.target.{TheConstants.LAST_TARGET, TargetRow.TargetRow}
use Rattle.mum_users.specs.{Listeners.pair_below, Order.Rises, Targets.is_oversize, Targets.target_below}
use Rattle.mum_users.specs.State.{RosterState, has_name, has_number, is_of, is_of_channel, is_of_session}

-- the slots are at least the low one, rise, and are below the limit
abbrev pub SlotsRise : ℕ → ℕ → List User → Type 0
SlotsRise limit low [] = low ≤ limit
SlotsRise limit low (user ∷ users) = (low ≤ user.slot.0) × SlotsRise limit (user.slot.0 + 1) users

-- by their sessions, those of one session by their numbers
abbrev pub row_below : TargetRow → TargetRow → Bool
row_below row other = target_below other.session other.id row

-- its number is one of a target, and it has items and is within the limits
abbrev pub is_sound : TargetRow → Bool
is_sound row =
    not ((row.id == 0) || nat_lt LAST_TARGET row.id || (length row.target.items == 0) || is_oversize row.target)

-- who is deaf is mute, whether others or the session itself made it so
abbrev pub deaf_is_mute : User → Bool
deaf_is_mute user = (not user.deaf || user.mute) && (not user.self_deaf || user.self_mute)

-- what holds of every roster
pub record IsProper (state : RosterState) : Type 0 where
  -- the limit of sessions is within the greatest
  pub limit_fits : state.limit ≤ SLOTS
  -- no two sessions have one slot, number or name, and slots are below the limit
  pub slots : SlotsRise state.limit 0 state.sessions
  pub numbers : (session : SessionId) → count_by (has_number session) state.sessions ≤ 1
  pub names : (name : List ℕ) → count_by (has_name name) state.sessions ≤ 1
  -- no number is above the last that was given
  pub given : (session : SessionId) → state.last < session.0 → count_by (has_number session) state.sessions ≡ 0
  pub last_fits : state.last < 2 ^ 32
  -- each session that is deaf is mute
  pub deaf_are_mute : count_by (λ user. not (deaf_is_mute user)) state.sessions ≡ 0
  -- those who listen are here, no channel has too many of them, and none listens to too many channels
  pub listeners_here : (session : SessionId) → count_by (has_number session) state.sessions ≡ 0
      → count_by (is_of_session session) state.listeners ≡ 0
  pub few_listeners : (channel : ChannelId) → count_by (is_of_channel channel) state.listeners ≤ CHANNEL_LISTENERS
  pub few_channels : (session : SessionId) → count_by (is_of_session session) state.listeners ≤ LISTENED_CHANNELS
  pub listeners_rise : Rises pair_below state.listeners
  -- those who have a target are here, and each target is within the limits
  pub targets_here : (session : SessionId) → count_by (has_number session) state.sessions ≡ 0
      → count_by (is_of session) state.targets ≡ 0
  pub targets_sound : count_by (λ row. not (is_sound row)) state.targets ≡ 0
  pub targets_rise : Rises row_below state.targets
