-- Whether sessions may speak where they are: who is asked, and who may do the same.
use Rattle.std.specs.Prelude.{◌==◌, ◌&&◌, ◌||◌, Bool, length, is_none}
use Rattle.mum_users.specs.declared.user.User.{User}
use Rattle.mum_state.specs.{Channels.ChannelsState, Channels.speaks_where_in, Renewed.is_renewed_slot}
use Rattle.mum_state.specs.declared.renewed.Renewed.{Renewed}

-- those in these slots, or all
abbrev pub is_heard : Renewed → Bool → User → Bool
is_heard renewed all user = is_renewed_slot renewed user.slot.0 || all

-- it is one of them, and may speak where it is
abbrev pub is_speaker : Renewed → Bool → ChannelsState → User → Bool
is_speaker renewed all channels user = is_heard renewed all user && speaks_where_in channels user

-- the session has no account and no tokens
abbrev pub is_plain : User → Bool
is_plain user = is_none user.account && (length user.tokens == 0)

-- both are so, and are in one channel: entries and groups do not distinguish them
abbrev pub are_alike : User → User → Bool
are_alike user other = is_plain user && is_plain other && (user.channel.0 == other.channel.0)
