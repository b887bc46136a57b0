-- Who is where, as masks: for a channel and a word of 128 slots a number with a bit for each slot.
use lib.Bits.{bit_and}
use mir.Syntax.{w128}
use Rattle.std.specs.Prelude.{◌≡◌, ℕ, ◌*◌, ◌/◌, ◌%◌, ◌^◌, ◌==◌, ◌&&◌, ◌||◌, not, nat_lt, Bool, List, [], ◌∷◌, count_by, if◌then◌else◌}
use Rattle.std.specs.{Int.bit_at, Int.bit_not, Int.RustNames.bit_or, List.list_any}
use Rattle.mum_base.specs.declared.number.ChannelId.{ChannelId}
use Rattle.mum_users.specs.declared.{listening.ListenerPair.ListenerPair, masks.MaskRow.MaskRow}
use Rattle.mum_users.specs.declared.{masks.TheConstants.WORD_SLOTS, user.User.User}
use Rattle.mum_users.specs.{Order.Rises, State.RosterState, State.is_in, State.is_pair}

-- a session in this slot is in the channel
abbrev pub has_member_at : RosterState → ChannelId → ℕ → Bool
has_member_at state channel slot =
    list_any (λ user. (user.slot.0 == slot) && is_in channel user) state.sessions

-- a session in this slot listens to the channel
abbrev pub has_listener_at : RosterState → ChannelId → ℕ → Bool
has_listener_at state channel slot =
    list_any (λ user. (user.slot.0 == slot) && list_any (is_pair user.session channel) state.listeners) state.sessions

-- the row is that of this channel and this word
abbrev pub is_mask_of : ChannelId → ℕ → MaskRow → Bool
is_mask_of channel word row = (row.channel.0 == channel.0) && (row.word == word)

-- the row is one of this channel
abbrev pub is_row_of : ChannelId → MaskRow → Bool
is_row_of channel row = row.channel.0 == channel.0

-- the row comes before those of this channel from this word on
abbrev pub is_mask_below : ChannelId → ℕ → MaskRow → Bool
is_mask_below channel word row =
    nat_lt row.channel.0 channel.0 || ((row.channel.0 == channel.0) && nat_lt row.word word)

-- by their channels, those of one channel by their words
abbrev pub mask_below : MaskRow → MaskRow → Bool
mask_below row other = is_mask_below other.channel other.word row

-- the mask of a channel and a word, 0 where it has no row
abbrev pub mask_at : ChannelId → ℕ → List MaskRow → ℕ
mask_at channel word [] = 0
mask_at channel word (row ∷ rows) = if is_mask_of channel word row then row.mask else mask_at channel word rows

-- the mask has a bit, and is one of 128 bits
abbrev pub is_mask : ℕ → Bool
is_mask mask = nat_lt 0 mask && nat_lt mask (2 ^ 128)

-- a row for each channel and word in which a slot is set, and in it the bits of those slots
pub record AreMasks (is_set : ChannelId → ℕ → Bool) (rows : List MaskRow) : Type 0 where
  pub rise : Rises mask_below rows
  pub none_empty : count_by (λ row. not (is_mask row.mask)) rows ≡ 0
  pub bits : (channel : ChannelId) (slot : ℕ)
      → bit_at (mask_at channel (slot / WORD_SLOTS) rows) (slot % WORD_SLOTS) ≡ (if is_set channel slot then 1 else 0)

-- the row at its place among these, or in place of that of its channel and word; none where its mask is 0
abbrev pub with_mask : MaskRow → List MaskRow → List MaskRow
with_mask new [] = if new.mask == 0 then [] else new ∷ []
with_mask new (row ∷ rows) =
    if mask_below row new then row ∷ with_mask new rows
    else if is_mask_of new.channel new.word row then (if new.mask == 0 then rows else new ∷ rows)
    else (if new.mask == 0 then row ∷ rows else new ∷ row ∷ rows)

-- the slot is set for the channel
abbrev pub with_slot : ChannelId → ℕ → List MaskRow → List MaskRow
with_slot channel slot rows = with_mask (record {
  channel = channel;
  word = slot / WORD_SLOTS;
  mask = bit_or (mask_at channel (slot / WORD_SLOTS) rows) (1 * 2 ^ (slot % WORD_SLOTS) % 2 ^ 128);
}) rows

-- the slot is not set for the channel
abbrev pub without_slot : ChannelId → ℕ → List MaskRow → List MaskRow
without_slot channel slot rows = with_mask (record {
  channel = channel;
  word = slot / WORD_SLOTS;
  mask = bit_and (mask_at channel (slot / WORD_SLOTS) rows) (bit_not w128 (1 * 2 ^ (slot % WORD_SLOTS) % 2 ^ 128));
}) rows

-- the slots of these sessions, each set for its channel
abbrev pub masks_of : List User → List MaskRow
masks_of [] = []
masks_of (user ∷ users) = with_slot user.channel user.slot.0 (masks_of users)

-- the slot is set for the channels of these pairs
abbrev pub with_pairs : ℕ → List ListenerPair → List MaskRow → List MaskRow
with_pairs slot [] rows = rows
with_pairs slot (pair ∷ pairs) rows = with_slot pair.channel slot (with_pairs slot pairs rows)

-- the slot is set for none of the channels of these pairs
abbrev pub without_pairs : ℕ → List ListenerPair → List MaskRow → List MaskRow
without_pairs slot [] rows = rows
without_pairs slot (pair ∷ pairs) rows = without_slot pair.channel slot (without_pairs slot pairs rows)
