-- Voice packets: the section "Voice data" of the Mumble protocol documentation.
use Rattle.std.specs.Prelude.{ℕ, zero, suc, ◌≡◌, ◌+◌, ◌*◌, ◌/◌, ◌%◌, ◌^◌, ◌<◌, ◌≤◌, ◌==◌, ◌||◌, Bool, List, [], ◌∷◌, ◌++◌, length, take, drop, Option, Some, None, Result, Ok, Err, nat_lt, IsTrue, false, if◌then◌else◌}
use Rattle.std.specs.Option.{option_map}
use Rattle.mum_voice.specs.declared.{fault.BadVoice.BadVoice, packet.Packet.Packet, packet.TheConstants.PACKET_LIMIT}
use Rattle.mum_voice.specs.declared.audio.TheConstants.{CELT_ALPHA, SPEEX, CELT_BETA, OPUS}
use Rattle.mum_voice.specs.Varint.{SpellsWord, BeginsWith, BeginsWithNone, word_at, shortest_word}

-- a packet as lists, without where its bytes lie in memory
pub record Parts : Type 0 where
  pub kind : ℕ
  pub target : ℕ
  pub sequence : List ℕ
  pub audio : List ℕ
  pub position : List ℕ

abbrev pub plain_parts : Packet → Parts
plain_parts p =
    record { kind = p.kind; target = p.target; sequence = p.sequence.now; audio = p.audio.now; position = p.position.now }

-- ---- the grammar

-- The length of Opus audio is the low 13 bits of a varint of 14; bit 13 is the terminator.
pub record IsOpus (audio : List ℕ) : Type 0 where
  pub number : ℕ
  pub header : List ℕ
  pub sound : List ℕ
  pub spelled : SpellsWord header number
  pub fits : number ≤ 0x3FFF
  pub len : length sound ≡ number % 0x2000
  pub bytes : audio ≡ header ++ sound

-- Segments one after the other. The low seven bits of a segment's header are its length, and the top
-- bit says that another segment follows.
pub data AreSegments : List ℕ → Type 0 where
  last : (sound : List ℕ) → length sound < 2 ^ 7 → AreSegments (length sound ∷ sound)
  another : (sound rest : List ℕ) → length sound < 2 ^ 7 → AreSegments rest
      → AreSegments ((0x80 + length sound) ∷ sound ++ rest)

-- the audio of the kinds 0 CELT Alpha, 2 Speex, 3 CELT Beta and 4 Opus
pub data IsAudio : ℕ → List ℕ → Type 0 where
  celt_alpha : (audio : List ℕ) → AreSegments audio → IsAudio CELT_ALPHA audio
  speex : (audio : List ℕ) → AreSegments audio → IsAudio SPEEX audio
  celt_beta : (audio : List ℕ) → AreSegments audio → IsAudio CELT_BETA audio
  opus : (audio : List ℕ) → IsOpus audio → IsAudio OPUS audio

-- the header, the sequence, the audio, and all that follows, which is the position
abbrev pub client_bytes : Parts → List ℕ
client_bytes p = (p.kind * 2 ^ 5 + p.target) ∷ p.sequence ++ p.audio ++ p.position

pub record IsPacket (p : Parts) : Type 0 where
  pub target : p.target < 2 ^ 5
  pub number : ℕ
  pub sequence : SpellsWord p.sequence number
  pub audio : IsAudio p.kind p.audio
  pub fits : length (client_bytes p) ≤ PACKET_LIMIT

-- ---- the faults

abbrev pub bad_length : BadVoice
bad_length = record { code = 20 }

abbrev pub bad_type : BadVoice
bad_type = record { code = 21 }

abbrev pub bad_varint : BadVoice
bad_varint = record { code = 22 }

abbrev pub bad_audio : BadVoice
bad_audio = record { code = 23 }

abbrev pub is_audio_kind : ℕ → Bool
is_audio_kind kind = (kind == CELT_ALPHA) || (kind == SPEEX) || (kind == CELT_BETA) || (kind == OPUS)

-- a header that no fault of length or kind comes before
pub record IsHeader (header : ℕ) (bytes : List ℕ) : Type 0 where
  pub fits : length bytes + 1 ≤ PACKET_LIMIT
  pub known : IsTrue (is_audio_kind (header / 2 ^ 5))

-- no audio of this kind begins the bytes
abbrev pub HasNoAudio : ℕ → List ℕ → Type 0
HasNoAudio kind bytes = (audio position : List ℕ) → IsAudio kind audio → bytes ≡ audio ++ position → ⊥

-- the first fault: of the length, then of the kind, the sequence and the audio
pub data HasVoiceFault : List ℕ → BadVoice → Type 0 where
  empty : HasVoiceFault [] bad_length
  too_long : (bytes : List ℕ) → PACKET_LIMIT < length bytes → HasVoiceFault bytes bad_length
  unknown_kind : (header : ℕ) (bytes : List ℕ) → length bytes + 1 ≤ PACKET_LIMIT
      → is_audio_kind (header / 2 ^ 5) ≡ false → HasVoiceFault (header ∷ bytes) bad_type
  no_sequence : (header : ℕ) (bytes : List ℕ) → IsHeader header bytes → BeginsWithNone bytes
      → HasVoiceFault (header ∷ bytes) bad_varint
  no_audio : (header number len : ℕ) (bytes : List ℕ) → IsHeader header bytes → BeginsWith bytes number len
      → HasNoAudio (header / 2 ^ 5) (drop len bytes) → HasVoiceFault (header ∷ bytes) bad_audio

-- ---- reading, as a function: the parts, or the first fault

-- how many bytes Opus audio takes, by the varint that begins it
abbrev pub opus_len_by : List ℕ → Option (ℕ × ℕ) → Option ℕ
opus_len_by bytes None = None
opus_len_by bytes (Some (number, header_len)) =
    if nat_lt 0x3FFF number then None
    else if nat_lt (length bytes) (header_len + number % 0x2000) then None
    else Some (header_len + number % 0x2000)

unfoldable pub opus_len : List ℕ → Option ℕ
opus_len bytes = opus_len_by bytes (word_at bytes)

-- how many bytes the segments take, where there are no more than count of them
unfoldable pub segments_len_within : ℕ → List ℕ → Option ℕ
segments_len_within zero bytes = None
segments_len_within (suc count) [] = None
segments_len_within (suc count) (header ∷ bytes) =
    if nat_lt (length bytes) (header % 2 ^ 7) then None
    else if nat_lt header (2 ^ 7) then Some (1 + header % 2 ^ 7)
    else option_map (λ rest. 1 + header % 2 ^ 7 + rest) (segments_len_within count (drop (header % 2 ^ 7) bytes))

-- each segment has a header, so there are no more than bytes
unfoldable pub segments_len : List ℕ → Option ℕ
segments_len bytes = segments_len_within (length bytes) bytes

unfoldable pub audio_len : ℕ → List ℕ → Option ℕ
audio_len kind bytes = if kind == OPUS then opus_len bytes else segments_len bytes

-- the packet of this header and sequence, by the length of the audio that begins the rest
abbrev pub packet_by_audio : ℕ → List ℕ → List ℕ → Option ℕ → Result Parts BadVoice
packet_by_audio header sequence rest None = Err bad_audio
packet_by_audio header sequence rest (Some len) =
    Ok (record { kind = header / 2 ^ 5; target = header % 2 ^ 5; sequence = sequence; audio = take len rest; position = drop len rest })

-- the packet of this header, by the varint that begins the bytes after it
abbrev pub packet_by_sequence : ℕ → List ℕ → Option (ℕ × ℕ) → Result Parts BadVoice
packet_by_sequence header bytes None = Err bad_varint
packet_by_sequence header bytes (Some (number, len)) =
    packet_by_audio header (take len bytes) (drop len bytes) (audio_len (header / 2 ^ 5) (drop len bytes))

unfoldable pub packet : List ℕ → Result Parts BadVoice
packet [] = Err bad_length
packet (header ∷ bytes) =
    if nat_lt PACKET_LIMIT (length bytes + 1) then Err bad_length
    else if is_audio_kind (header / 2 ^ 5) then packet_by_sequence header bytes (word_at bytes)
    else Err bad_type

-- what parsing answered, as lists
abbrev pub parsed : Result Packet BadVoice → Result Parts BadVoice
parsed (Ok p) = Ok (plain_parts p)
parsed (Err fault) = Err fault

-- ---- the server's copy

-- the kind and the context, the sender's session, and the parts as they came
abbrev pub copy : Parts → ℕ → ℕ → Bool → List ℕ
copy p session context with_position =
    (p.kind * 2 ^ 5 + context) ∷ shortest_word session ++ p.sequence ++ p.audio
    ++ (if with_position then p.position else [])
