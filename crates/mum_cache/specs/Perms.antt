-- What is kept of the permissions of a state.
use Rattle.std.specs.Prelude.{◌≡◌, ℕ, ◌+◌, ◌*◌, ◌<◌, ◌≤◌, ◌==◌, ◌&&◌, Bool, false, true, List, MatchOption, Option, replicate, set, slice_index_or, Some, IsSome, IsTrue, if◌then◌else◌}
use Rattle.mum_base.specs.declared.number.{ChannelId.ChannelId, SessionId.SessionId, Slot.Slot}
use Rattle.mum_base.specs.declared.{number.TheConstants.PLACES, number.TheConstants.SLOTS, perm.Perm.Perm}
use Rattle.mum_tree.specs.Rows.{is_there}
use Rattle.mum_users.specs.Sessions.{session_of}
use Rattle.mum_state.specs.{Laws.HasPlace, Laws.IsInSlot, Permissions.perm_of, Permissions.visits_of, State.StateValue}
use Rattle.mum_cache.specs.declared.perms.PermEntry.{PermEntry}
use Rattle.mum_cache.specs.Places.{count_of, place_of, slot_of}

-- ---- the entries, by slot and by the place of a channel

-- a place where nothing is kept
abbrev pub no_perm : PermEntry
no_perm = record { used = false; session = record { 0 = 0 }; channel = record { 0 = 0 }; policy = 0; count = 0; value = record { 0 = 0 } }

-- nothing is kept
unfoldable pub no_perms : List PermEntry
no_perms = replicate (SLOTS * PLACES) no_perm

-- where an entry is: those of one place for all slots, and after them those of the next
abbrev pub perm_index : ℕ → ℕ → ℕ
perm_index slot place = place * SLOTS + slot

abbrev pub perm_at : List PermEntry → ℕ → ℕ → PermEntry
perm_at entries slot place = slice_index_or entries (perm_index slot place) no_perm

-- ---- which of them are right

-- an entry of this slot is valid: its session is in the slot, its channel is there, both counts are those of the state
pub record PermStands (state : StateValue) (slot : ℕ) (entry : PermEntry) : Type 0 where
  pub seated : IsInSlot state entry.session (record { 0 = slot })
  pub there : IsTrue (is_there state.tree.channels entry.channel)
  pub policy : entry.policy ≡ state.counts.policy
  pub count : entry.count ≡ count_of state slot

-- No count is above the state's, and no number above the greatest that the state ever gave. A session that is there has
-- this slot, and a channel that is there has this place. One that is valid has what the session may do in the channel.
pub record PermSound (state : StateValue) (slot place : ℕ) (entry : PermEntry) : Type 0 where
  pub policy : entry.policy ≤ state.counts.policy
  pub count : entry.count ≤ count_of state slot
  pub session_given : entry.session.0 ≤ state.roster.last
  pub channel_given : entry.channel.0 ≤ state.tree.greatest
  pub seated : (own : Slot) → IsInSlot state entry.session own → own.0 ≡ slot
  pub placed : (own : ℕ) → HasPlace state entry.channel own → own ≡ place
  pub value : PermStands state slot entry → perm_of state entry.session entry.channel ≡ Some entry.value.0

-- each entry that is kept is sound
abbrev pub ArePermsSound : StateValue → List PermEntry → Type 0
ArePermsSound state entries =
    (slot place : ℕ) → slot < SLOTS → place < PLACES → IsTrue (perm_at entries slot place).used
    → PermSound state slot place (perm_at entries slot place)

-- ---- what is asked

-- the session and the channel are there
pub record IsThere (state : StateValue) (session : SessionId) (channel : ChannelId) : Type 0 where
  pub session_there : IsSome (session_of state.roster session)
  pub channel_there : IsTrue (is_there state.tree.channels channel)

-- the place of a session and a channel that are there
abbrev pub index_of : StateValue → SessionId → ChannelId → ℕ
index_of state session channel = perm_index (slot_of state session) (place_of state channel)

-- the entry that is kept at their place
abbrev pub kept_at : StateValue → SessionId → ChannelId → List PermEntry → PermEntry
kept_at state session channel entries = perm_at entries (slot_of state session) (place_of state channel)

-- the entry is of the session and the channel, which are there, and has the counts of the state: so it is valid
abbrev pub answers : StateValue → SessionId → ChannelId → PermEntry → Bool
answers state session channel entry =
    entry.used && (entry.session.0 == session.0) && (entry.channel.0 == channel.0)
    && (entry.policy == state.counts.policy) && (entry.count == count_of state (slot_of state session))

-- how many entries of access control lists are read for an answer: none where the entry is valid
abbrev pub visits_at : StateValue → SessionId → ChannelId → List PermEntry → ℕ
visits_at state session channel entries =
    if answers state session channel (kept_at state session channel entries) then 0 else visits_of state session channel

-- the entry that is kept of an answer
abbrev pub perm_entry : StateValue → SessionId → ChannelId → Perm → PermEntry
perm_entry state session channel value = record {
  used = true;
  session = session;
  channel = channel;
  policy = state.counts.policy;
  count = count_of state (slot_of state session);
  value = value;
}

-- What an answer leaves: its entry is at the place of the session and the channel, with the counts of the state, and
-- every other entry is as it was.
pub record KeepsPerm (state : StateValue) (session : SessionId) (channel : ChannelId) (value : Perm)
    (before later : List PermEntry) : Type 0 where
  pub kept : later ≡ set before (index_of state session channel) (perm_entry state session channel value)
  pub stands : IsTrue (answers state session channel (kept_at state session channel later))

-- the same, where the two may not be there: then every entry is as it was
abbrev pub KeepsAnswer : StateValue → SessionId → ChannelId → Option Perm → List PermEntry → List PermEntry → Type 0
KeepsAnswer state session channel answer before later =
    MatchOption answer (later ≡ before) (λ value. KeepsPerm state session channel value before later)
