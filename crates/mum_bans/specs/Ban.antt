-- A ban: which addresses it covers, and when it is living.
use Rattle.std.specs.Prelude.{ℕ, ◌+◌, ◌==◌, ◌&&◌, ◌||◌, Bool, List, [], ◌∷◌, take, nat_lt, bytes_eq, flat_map}
use Rattle.std.specs.{List.list_any, Int.bit_at}
use Rattle.mum_bans.specs.declared.ban.Ban.{Ban}

-- the bits of a byte, the highest first
abbrev pub byte_bits : ℕ → List ℕ
byte_bits byte =
    bit_at byte 7 ∷ bit_at byte 6 ∷ bit_at byte 5 ∷ bit_at byte 4 ∷ bit_at byte 3 ∷ bit_at byte 2 ∷ bit_at byte 1
    ∷ bit_at byte 0 ∷ []

-- the bits of an address, from its first byte on
abbrev pub address_bits : List ℕ → List ℕ
address_bits bytes = flat_map byte_bits bytes

-- the first bits are equal, as many as the mask says
abbrev pub covers : Ban → List ℕ → Bool
covers ban address = bytes_eq (take ban.mask (address_bits ban.address)) (take ban.mask (address_bits address))

-- it lasts without end, or not yet so long
abbrev pub is_living : Ban → ℕ → Bool
is_living ban moment = (ban.duration == 0) || nat_lt moment (ban.start + ban.duration)

-- some ban covers the address and is living at the moment
abbrev pub refuses : List Ban → List ℕ → ℕ → Bool
refuses bans address moment = list_any (λ ban. is_living ban moment && covers ban address) bans

-- all but the start is equal
abbrev pub is_same : Ban → Ban → Bool
is_same ban other = bytes_eq ban.address other.address
    && ((ban.mask == other.mask)
    && (bytes_eq ban.name other.name
    && (bytes_eq ban.hash other.hash
    && (bytes_eq ban.reason other.reason
    && (ban.duration == other.duration)))))
