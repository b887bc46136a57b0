-- Where a payload stops being one: the faults of a field, a case for each cause (Protocol Buffers, "Encoding").
use Rattle.std.specs.Prelude.{◌≡◌, ℕ, ◌+◌, ◌*◌, ◌/◌, ◌<◌, List, [], ◌∷◌, ◌++◌, length}
use Rattle.mum_fields.specs.declared.fault.{FaultKind.FaultKind, FieldFault.FieldFault}
use Rattle.mum_fields.specs.declared.fault.FaultKind.TheVariants.{Truncated, BadWireType, BadVarint, BadLength}
use Rattle.mum_fields.specs.{Fault.fault, Varint.IsVarint, Varint.HaveTops, Varint.PassesTen}
use Rattle.mum_fields.specs.Field.{Entry, Cursor, IsNumber, IsField}

-- no varint begins the bytes: they end inside one, or it has more than ten bytes or a tenth above 1
pub data HasNoVarint : List ℕ → FaultKind → Type 0 where
  cut : (bytes : List ℕ) → HaveTops bytes → length bytes < 10 → HasNoVarint bytes Truncated
  above_64_bits : (bytes : List ℕ) → PassesTen 9 bytes → HasNoVarint bytes BadVarint

-- a varint of the number begins what is left, and after it `after` is left
pub record BeginsWithVarint (c : Cursor) (n : ℕ) (after : Cursor) : Type 0 where
  pub bytes : List ℕ
  pub is : IsVarint bytes n
  pub whole : c.rest ≡ bytes ++ after.rest
  pub behind : after.place ≡ c.place + length bytes

-- the key of a field of this number and wire type begins what is left
abbrev pub BeginsWithKey : Cursor → ℕ → ℕ → Cursor → Type 0
BeginsWithKey c number wire after = IsNumber number × BeginsWithVarint c (number * 8 + wire) after

-- groups, which are left out, and what no field has
pub data IsNoWireType : ℕ → Type 0 where
  group_begins : IsNoWireType 3
  group_ends : IsNoWireType 4
  six : IsNoWireType 6
  seven : IsNoWireType 7

-- the first field of what is left has this fault
pub data HasFieldFault : Cursor → FieldFault → Type 0 where
  no_key : (c : Cursor) (kind : FaultKind) → 0 < length c.rest → HasNoVarint c.rest kind
      → HasFieldFault c (fault kind c.place)
  no_number : (c after : Cursor) (key : ℕ) → BeginsWithVarint c key after → (IsNumber (key / 8) → ⊥)
      → HasFieldFault c (fault BadWireType c.place)
  no_wire_type : (c after : Cursor) (number wire : ℕ) → BeginsWithKey c number wire after → IsNoWireType wire
      → HasFieldFault c (fault BadWireType c.place)
  no_varint : (c after : Cursor) (number : ℕ) (kind : FaultKind) → BeginsWithKey c number 0 after
      → HasNoVarint after.rest kind
      → HasFieldFault c (fault kind after.place)
  cut_fixed8 : (c after : Cursor) (number : ℕ) → BeginsWithKey c number 1 after → length after.rest < 8
      → HasFieldFault c (fault Truncated after.place)
  no_length : (c after : Cursor) (number : ℕ) (kind : FaultKind) → BeginsWithKey c number 2 after
      → HasNoVarint after.rest kind
      → HasFieldFault c (fault kind after.place)
  long_block : (c after behind : Cursor) (number size : ℕ) → BeginsWithKey c number 2 after
      → BeginsWithVarint after size behind
      → length behind.rest < size → HasFieldFault c (fault BadLength behind.place)
  cut_fixed4 : (c after : Cursor) (number : ℕ) → BeginsWithKey c number 5 after → length after.rest < 4
      → HasFieldFault c (fault Truncated after.place)

-- what is left is these fields, and then comes the first fault
abbrev pub StopsAt : Cursor → List Entry → FieldFault → Type 0
StopsAt c [] found = HasFieldFault c found
StopsAt c (e ∷ es) found = (front : List ℕ) × (rest : List ℕ) × (c.rest ≡ front ++ rest) × IsField c.place e front
    × StopsAt (record { place = c.place + length front; rest = rest }) es found
