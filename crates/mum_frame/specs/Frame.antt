-- The frames of a stream, after the packet structure of the Mumble protocol documentation.
use Rattle.std.specs.Prelude.{◌≡◌, ◌≢◌, ℕ, ◌+◌, ◌^◌, ◌<◌, ◌≤◌, ◌==◌, ◌&&◌, Bool, nat_le, List, ◌++◌, length, drop}
use Rattle.byteorder.specs.Endian.{big_bytes, big_number}
use Rattle.mum_frame.specs.declared.frame.{TheConstants.HEADER_LENGTH, TheConstants.PAYLOAD_LIMIT, Frame.Frame}

-- the type in two bytes, the payload's length in four, both big endian, and the payload
unfoldable pub spelling_of : ℕ → List ℕ → List ℕ
spelling_of kind payload = big_bytes 2 kind ++ big_bytes 4 (length payload) ++ payload

abbrev pub frame_spelling : Frame → List ℕ
frame_spelling frame = spelling_of frame.kind frame.payload

-- the type fits its two bytes, and the payload is within the limit
pub record IsFrame (frame : Frame) : Type 0 where
  pub kind_fits : frame.kind < 2 ^ 16
  pub within_limit : length frame.payload ≤ PAYLOAD_LIMIT

-- the length that a header names: its last four bytes, big endian
unfoldable pub named_length : List ℕ → ℕ
named_length bytes = big_number 4 (drop 2 bytes)

-- the type that a header names: its first two bytes, big endian
unfoldable pub kind_of : List ℕ → ℕ
kind_of bytes = big_number 2 bytes

-- what follows the header
unfoldable pub payload_of : List ℕ → List ℕ
payload_of bytes = drop HEADER_LENGTH bytes

-- exactly one frame, and nothing after it
abbrev pub IsOneFrame : List ℕ → Type 0
IsOneFrame bytes = (frame : Frame) × IsFrame frame × (bytes ≡ frame_spelling frame)

-- the same as a test of bytes: as many come after the header as it names, within the limit
abbrev pub is_one_frame : List ℕ → Bool
is_one_frame bytes = (length bytes == HEADER_LENGTH + named_length bytes) && nat_le (named_length bytes) PAYLOAD_LIMIT

-- a header is there, and it names a payload above the limit
pub record TooLong (bytes : List ℕ) : Type 0 where
  pub header : HEADER_LENGTH ≤ length bytes
  pub above : PAYLOAD_LIMIT < named_length bytes

-- a frame within the limit begins the bytes
abbrev pub HasFrame : List ℕ → Type 0
HasFrame bytes = (frame : Frame) × (rest : List ℕ) × IsFrame frame × (bytes ≡ frame_spelling frame ++ rest)

-- no frame within the limit begins the bytes
abbrev pub HasNoFrame : List ℕ → Type 0
HasNoFrame bytes = (frame : Frame) (rest : List ℕ) → IsFrame frame → bytes ≢ frame_spelling frame ++ rest
