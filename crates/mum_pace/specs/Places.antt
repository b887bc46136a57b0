-- Where a client is in its stream of frames, and what each byte counts for.
use Rattle.std.specs.Prelude.{ℕ, zero, suc, ◌+◌, ◌-◌, ◌*◌, ◌==◌, ◌&&◌, ◌||◌, min, nat_le, nat_lt, not, Bool, true, List, [], ◌∷◌, ◌++◌, length, take, drop, if◌then◌else◌}
use Rattle.std.specs.Int.{w16, w32, from_be_bytes}
use Rattle.mum_pace.specs.declared.frames.{Cost.Cost, Frames.Frames}
use Rattle.mum_pace.specs.declared.frames.TheConstants.{HEADER_LENGTH, PING, VOICE}
use Rattle.mum_pace.specs.declared.long.TheConstants.{SHORT_LIMIT}
use Rattle.mum_pace.specs.Pieces.{begins_piece, bytes_within, pieces_in}

-- The bytes of the next header that have come, fewer than six; and of the frame that began last, its type, how long
-- its payload is and how much of that is to come.
pub record Place : Type 0 where
  pub header : List ℕ
  pub kind : ℕ
  pub payload : ℕ
  pub left : ℕ

-- before the first byte, as if after an empty Ping
abbrev pub start : Place
start = record { header = []; kind = PING; payload = 0; left = 0 }

abbrev pub place_of : Frames → Place
place_of frames = record { header = take frames.gathered frames.header; kind = frames.kind; payload = frames.payload; left = frames.left }

-- ---- what a byte makes of a place

-- at the first byte of the payload of the frame that this header begins: its type in two bytes, its length in four
unfoldable pub begun : List ℕ → Place
begun header =
    record {
      header = [];
      kind = from_be_bytes w16 (take 2 header);
      payload = from_be_bytes w32
          (drop 2 header);
      left = from_be_bytes w32 (drop 2 header);
    }

-- where so much of the next header has come
unfoldable pub after_header : Place → List ℕ → Place
after_header place header = if length header == HEADER_LENGTH then begun header else record place { header = header }

-- the same by what is left of a payload: if nothing is, the byte is of a header
unfoldable pub after_byte_by : ℕ → Place → ℕ → Place
after_byte_by zero place byte = after_header place (place.header ++ byte ∷ [])
after_byte_by (suc left) place byte = record place { left = left }

abbrev pub after_byte : Place → ℕ → Place
after_byte place byte = after_byte_by place.left place byte

unfoldable pub after_bytes : Place → List ℕ → Place
after_bytes place [] = place
after_bytes place (byte ∷ bytes) = after_bytes (after_byte place byte) bytes

-- ---- what a byte counts for

abbrev pub one_if : Bool → ℕ
one_if test = if test then 1 else 0

-- a frame of this type counts as a message
abbrev pub is_message : ℕ → Bool
is_message kind = not ((kind == VOICE) || (kind == PING))

-- how many bytes of the frame that began last have come, those of its header among them
abbrev pub passed : Place → ℕ
passed place = place.payload - place.left + HEADER_LENGTH

abbrev pub nothing : Cost
nothing = record { frames = 0; messages = 0; voice = 0 }

-- the last byte of a header counts for the frame that begins: a frame of voice, a message, or a Ping, which is neither
abbrev pub cost_of_header : ℕ → Cost
cost_of_header kind = record { frames = 1; messages = one_if (is_message kind); voice = one_if (kind == VOICE) }

-- a byte of a payload counts for a piece of a message that begins with it
abbrev pub cost_of_payload : Place → Cost
cost_of_payload place =
    record { frames = 0; messages = one_if (is_message place.kind && begins_piece (passed place)); voice = 0 }

-- the cost of a byte with which so much of the next header has come
unfoldable pub cost_at_header : List ℕ → Cost
cost_at_header header = if length header == HEADER_LENGTH then cost_of_header (begun header).kind else nothing

-- the same by what is left of a payload
unfoldable pub cost_by : ℕ → Place → ℕ → Cost
cost_by zero place byte = cost_at_header (place.header ++ byte ∷ [])
cost_by (suc left) place byte = cost_of_payload place

abbrev pub cost_of : Place → ℕ → Cost
cost_of place byte = cost_by place.left place byte

abbrev pub plus : Cost → Cost → Cost
plus one other =
    record {
      frames = one.frames + other.frames;
      messages = one.messages + other.messages;
      voice = one.voice
          + other.voice;
    }

-- what bytes count for, each at the place where those before it lead
unfoldable pub cost_in : Place → List ℕ → Cost
cost_in place [] = nothing
cost_in place (byte ∷ bytes) = plus (cost_of place byte) (cost_in (after_byte place byte) bytes)

-- the length of the payload under way, or 0
abbrev pub payload_under_way : Place → ℕ
payload_under_way place = if place.left == 0 then 0 else place.payload

-- ---- Pings

-- the frame that began last is a Ping, and a short one
abbrev pub is_in_a_ping : Place → Bool
is_in_a_ping place = (place.kind == PING) && nat_le place.payload SHORT_LIMIT

-- the header in which this place is goes on in these bytes
abbrev pub goes_on : Place → List ℕ → Bool
goes_on place bytes = nat_lt 0 (length place.header) && nat_lt 0 (length bytes)

-- Whether each of these bytes is of a short Ping. Those of a header count with the frame that it begins; if its end has not
-- come, with the frame before.
unfoldable pub are_of_pings : Place → List ℕ → Bool
are_of_pings place [] = true
are_of_pings place (byte ∷ bytes) =
    (goes_on (after_byte place byte) bytes || is_in_a_ping (after_byte place byte))
    && are_of_pings (after_byte place byte) bytes

-- ---- how much may be read

-- how many pieces begin in the next bytes of the payload under way
abbrev pub pieces_to_come : Place → ℕ → ℕ
pieces_to_come place bytes =
    if is_message place.kind then pieces_in (passed place + bytes) - pieces_in (passed place) else 0

-- how many are yet to begin in all that is left of it
abbrev pub pieces_left : Place → ℕ
pieces_left place = pieces_to_come place place.left

-- As many bytes as surely take up no more than so much room: the rest of a message as far as its pieces find room; if all
-- of them do, or if there is none, the rest of the payload, and as many headers as frames of either sort have room.
unfoldable pub length_within : Place → ℕ → ℕ → ℕ
length_within place messages voice =
    if nat_lt messages (pieces_left place) then bytes_within (pieces_in (passed place) + messages) - passed place
    else place.left + min (messages - pieces_left place) voice * HEADER_LENGTH
