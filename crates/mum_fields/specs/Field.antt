-- A field at the front of what is left of a payload (Protocol Buffers, "Encoding", "Message Structure").
use Rattle.std.specs.Prelude.{◌≡◌, ℕ, ◌+◌, ◌-◌, ◌*◌, ◌/◌, ◌%◌, ◌≤◌, ◌^◌, ◌==◌, ◌||◌, List, ◌++◌, length, take, drop, Result, Ok, Err, nat_lt, if◌then◌else◌}
use Rattle.std.specs.Int.{w32, w64, from_le_bytes}
use Rattle.mum_fields.specs.declared.fault.FaultKind.{FaultKind}
use Rattle.mum_fields.specs.declared.fault.FaultKind.TheVariants.{Truncated, BadWireType, BadLength}
use Rattle.mum_fields.specs.declared.{fault.FieldFault.FieldFault, field.Placed.Placed}
use Rattle.mum_fields.specs.{Fault.fault, Varint.IsVarint, Varint.varint}
use Rattle.mum_fields.specs.Content.{Content, Varint, Fixed8, Block, Fixed4, content_of}

-- a field, and the place in the payload where its number or its block begins
pub record Entry : Type 0 where
  pub number : ℕ
  pub content : Content
  pub place : ℕ

abbrev pub entry_of : Placed → Entry
entry_of placed = record { number = placed.field.number; content = content_of placed.field.value; place = placed.at }

-- what is left of a payload, and the place in it of the first byte that is left
pub record Cursor : Type 0 where
  pub place : ℕ
  pub rest : List ℕ

abbrev pub skip : ℕ → Cursor → Cursor
skip n c = record { place = c.place + n; rest = drop n c.rest }

-- ---- by cases on the wire type

abbrev pub wire_type : Content → ℕ
wire_type (Varint n) = 0
wire_type (Fixed8 n) = 1
wire_type (Block block) = 2
wire_type (Fixed4 n) = 5

-- the greatest number of a field
abbrev pub last_number : ℕ
last_number = 2 ^ 29 - 1

abbrev pub IsNumber : ℕ → Type 0
IsNumber number = (1 ≤ number) × (number ≤ last_number)

-- these bytes are the value, and what it is begins `skipped` bytes after their first
abbrev pub IsValue : Content → List ℕ → ℕ → Type 0
IsValue (Varint n) bytes skipped = IsVarint bytes n × (skipped ≡ 0)
IsValue (Fixed8 n) bytes skipped = (length bytes ≡ 8) × (n ≡ from_le_bytes w64 bytes) × (skipped ≡ 0)
IsValue (Block block) bytes skipped =
    (size : List ℕ) × IsVarint size (length block) × (bytes ≡ size ++ block) × (skipped ≡ length size)
IsValue (Fixed4 n) bytes skipped = (length bytes ≡ 4) × (n ≡ from_le_bytes w32 bytes) × (skipped ≡ 0)

-- these bytes are a field whose first byte is at the place: a key, which is the number times 8 plus the
-- wire type, and a value
pub record IsField (place : ℕ) (e : Entry) (bytes : List ℕ) : Type 0 where
  pub key : List ℕ
  pub value : List ℕ
  pub skipped : ℕ
  pub parts : bytes ≡ key ++ value
  pub number : IsNumber e.number
  pub is_key : IsVarint key (e.number * 8 + wire_type e.content)
  pub is_value : IsValue e.content value skipped
  pub begins : e.place ≡ place + length key + skipped

-- ---- from left to right, with the first fault

infixl 10 ◌>>=◌
abbrev pub ◌>>=◌ : {A B : Type 0} → Result A FieldFault → (A → Result B FieldFault) → Result B FieldFault
(Ok x) >>= f = f x
(Err e) >>= f = Err e

abbrev pub number_from : Cursor → Result (ℕ × ℕ) FaultKind → Result (ℕ × Cursor) FieldFault
number_from c (Ok found) = Ok (found.0, skip found.1 c)
number_from c (Err kind) = Err (fault kind c.place)

unfoldable pub varint_in_front : Cursor → Result (ℕ × Cursor) FieldFault
varint_in_front c = number_from c (varint c.rest)

-- n bytes, where they are left
unfoldable pub bytes_at : FaultKind → ℕ → Cursor → Result (List ℕ × Cursor) FieldFault
bytes_at missing n c = if nat_lt (length c.rest) n then Err (fault missing c.place) else Ok (take n c.rest, skip n c)

unfoldable pub fixed8_at : Cursor → Result (ℕ × Cursor) FieldFault
fixed8_at c = do
  found ← bytes_at Truncated 8 c
  Ok (from_le_bytes w64 found.0, found.1)

unfoldable pub fixed4_at : Cursor → Result (ℕ × Cursor) FieldFault
fixed4_at c = do
  found ← bytes_at Truncated 4 c
  Ok (from_le_bytes w32 found.0, found.1)

abbrev pub placed : ℕ → ℕ → Content × Cursor → Entry × Cursor
placed number place found = (record { number = number; content = found.0; place = place }, found.1)

-- the value after a key that has this place, number and wire type
unfoldable pub value_at : ℕ → ℕ → ℕ → Cursor → Result (Entry × Cursor) FieldFault
value_at key number wire c =
    if wire == 0 then (varint_in_front c >>= λ found. Ok (placed number c.place (Varint found.0, found.1)))
    else if wire == 1 then (fixed8_at c >>= λ found. Ok (placed number c.place (Fixed8 found.0, found.1)))
    else if wire
    == 2 then (varint_in_front c >>= λ size. bytes_at BadLength size.0 size.1 >>= λ found. Ok
    (placed number size.1.place (Block found.0, found.1)))
    else if wire == 5 then (fixed4_at c >>= λ found. Ok (placed number c.place (Fixed4 found.0, found.1)))
    else Err (fault BadWireType key)

-- the first field of what is left
unfoldable pub field_at : Cursor → Result (Entry × Cursor) FieldFault
field_at c = do
  key ← varint_in_front c
  (if (key.0 / 8 == 0) || nat_lt last_number (key.0 / 8) then Err (fault BadWireType c.place)
      else value_at c.place (key.0 / 8) (key.0 % 8) key.1)
