-- Where the answer for a session and a channel is kept, as the code knows it.
use Rattle.std.specs.Prelude.{◌≡◌, ◌<◌, ◌==◌, ◌&&◌, Bool}
use Rattle.mum_base.specs.declared.number.{ChannelId.ChannelId, SessionId.SessionId}
use Rattle.mum_base.specs.declared.number.TheConstants.{PLACES, SLOTS}
use Rattle.mum_state.specs.{Proper.IsProper, State.StateValue}
use Rattle.mum_cache.specs.declared.perms.{Key.Key, PermEntry.PermEntry}
use Rattle.mum_cache.specs.{Perms.IsThere, Perms.index_of, Places.count_of, Places.place_of, Places.slot_of}

pub record IsKey (state : StateValue) (session : SessionId) (channel : ChannelId) (key : Key) : Type 0 where
  pub proper : IsProper state
  pub there : IsThere state session channel
  pub slot : slot_of state session < SLOTS
  pub place : place_of state channel < PLACES
  pub index : key.index ≡ index_of state session channel
  pub policy : key.policy ≡ state.counts.policy
  pub count : key.count ≡ count_of state (slot_of state session)

abbrev pub answers_key : SessionId → ChannelId → Key → PermEntry → Bool
answers_key session channel key entry =
    entry.used && (entry.session.0 == session.0) && (entry.channel.0 == channel.0)
    && (entry.policy == key.policy) && (entry.count == key.count)
