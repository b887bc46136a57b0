-- What a roster holds, as plain lists.
use Rattle.std.specs.Prelude.{ℕ, ◌==◌, ◌&&◌, not, nat_lt, nat_le, Bool, false, List, [], length, Option}
use Rattle.std.specs.{List.list_any, Str.bytes_eq}
use Rattle.mum_base.specs.declared.number.{SessionId.SessionId, AccountId.AccountId, ChannelId.ChannelId, Slot.Slot}
use Rattle.mum_base.specs.declared.number.TheConstants.ChannelId.{ROOT}
use Rattle.mum_users.specs.declared.{user.User.User, listening.ListenerPair.ListenerPair, target.TargetRow.TargetRow}
use Rattle.mum_users.specs.declared.user.TheConstants.{CONTEXT_BYTES, DEFAULT_SESSIONS_LIMIT, TOKEN_BYTES, TOKENS}

-- a roster as plain lists and numbers
pub record RosterState : Type 0 where
  -- by their slots
  pub sessions : List User
  -- by their sessions, those of one session by their channels
  pub listeners : List ListenerPair
  -- by their sessions, those of one session by their numbers
  pub targets : List TargetRow
  -- the last session number that was given, or 0
  pub last : ℕ
  -- the most sessions at a time
  pub limit : ℕ

-- the row is that of this session
abbrev pub has_number : SessionId → User → Bool
has_number session user = user.session.0 == session.0

-- the session is in this slot
abbrev pub has_slot : Slot → User → Bool
has_slot slot user = user.slot.0 == slot.0

-- the session has this name
abbrev pub has_name : List ℕ → User → Bool
has_name name user = bytes_eq user.name name

-- the session is in this channel
abbrev pub is_in : ChannelId → User → Bool
is_in channel user = user.channel.0 == channel.0

-- the pair is that of this session and this channel
abbrev pub is_pair : SessionId → ChannelId → ListenerPair → Bool
is_pair session channel pair = (pair.session.0 == session.0) && (pair.channel.0 == channel.0)

-- the pair is one of this session
abbrev pub is_of_session : SessionId → ListenerPair → Bool
is_of_session session pair = pair.session.0 == session.0

-- the pair is one of this channel
abbrev pub is_of_channel : ChannelId → ListenerPair → Bool
is_of_channel channel pair = pair.channel.0 == channel.0

-- the target is one of this session
abbrev pub is_of : SessionId → TargetRow → Bool
is_of session row = row.session.0 == session.0

-- the target is that of this session under this number
abbrev pub is_target : SessionId → ℕ → TargetRow → Bool
is_target session id row = (row.session.0 == session.0) && (row.id == id)

-- nobody is here, and nobody was
abbrev pub empty_roster : RosterState
empty_roster = record { sessions = []; listeners = []; targets = []; last = 0; limit = DEFAULT_SESSIONS_LIMIT }

-- the token is longer than one may be
abbrev pub is_long_token : List ℕ → Bool
is_long_token token = nat_lt TOKEN_BYTES (length token)

-- as many tokens as a session may have, none of them too long
abbrev pub are_tokens : List (List ℕ) → Bool
are_tokens tokens = nat_le (length tokens) TOKENS && not (list_any is_long_token tokens)

-- a plugin context that is not too long
abbrev pub is_context : List ℕ → Bool
is_context bytes = nat_le (length bytes) CONTEXT_BYTES

-- the row of a session that joins: in the root channel, with no flag and no texts
abbrev pub joining : SessionId → Slot → List ℕ → Option AccountId → List (List ℕ) → User
joining session slot name account tokens = record {
  session = session;
  slot = slot;
  name = name;
  account = account;
  channel = ROOT;
  mute = false;
  deaf = false;
  suppress = false;
  self_mute = false;
  self_deaf = false;
  priority = false;
  recording = false;
  tokens = tokens;
  comment = [];
  context = [];
}
