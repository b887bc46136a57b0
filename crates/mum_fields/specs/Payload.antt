-- The fields of a payload, and the numbers of a packed block.
use Rattle.std.specs.Prelude.{◌≡◌, ℕ, zero, suc, ◌+◌, ◌==◌, List, [], ◌∷◌, ◌++◌, length, Option, Some, None, Result, Ok, Err, if◌then◌else◌}
use Rattle.mum_fields.specs.declared.fault.FieldFault.{FieldFault}
use Rattle.mum_fields.specs.Field.{Entry, Cursor, IsField, varint_in_front, field_at}

-- a cursor over a whole payload
abbrev pub at_start : List ℕ → Cursor
at_start payload = record { place = 0; rest = payload }

-- What is left is these fields and nothing else.
abbrev pub AreFields : Cursor → List Entry → Type 0
AreFields c [] = c.rest ≡ []
AreFields c (e ∷ es) = (front : List ℕ) × (rest : List ℕ) × (c.rest ≡ front ++ rest) × IsField c.place e front
    × AreFields (record { place = c.place + length front; rest = rest }) es

-- what comes before the end or the first fault, and the fault
pub record Walk (X : Type 0) : Type 0 where
  pub items : List X
  pub fault : Option FieldFault

abbrev pub ended : {X : Type 0} → Walk X
ended = record { items = []; fault = None }

abbrev pub stopped_by : {X : Type 0} → FieldFault → Walk X
stopped_by e = record { items = []; fault = Some e }

abbrev pub first : {X : Type 0} → X → Walk X → Walk X
first x others = record { items = x ∷ others.items; fault = others.fault }

abbrev pub walk_more : {X : Type 0} → (Cursor → Walk X) → Result (X × Cursor) FieldFault → Walk X
walk_more others (Ok found) = first found.0 (others found.1)
walk_more others (Err e) = stopped_by e

-- a step over and over to the end; each takes a byte or more, so that there are at most as many as bytes
abbrev pub walk_with : {X : Type 0} → (Cursor → Result (X × Cursor) FieldFault) → ℕ → Cursor → Walk X
walk_with step zero c = ended
walk_with step (suc most) c = if length c.rest == 0 then ended else walk_more (walk_with step most) (step c)

unfoldable pub walk : {X : Type 0} → (Cursor → Result (X × Cursor) FieldFault) → Cursor → Walk X
walk step c = walk_with step (length c.rest) c

-- the fields that are left
abbrev pub fields : Cursor → Walk Entry
fields c = walk field_at c

-- the varints that are left of a packed block (Protocol Buffers, "Encoding", "Packed Repeated Fields")
abbrev pub packed : Cursor → Walk ℕ
packed c = walk varint_in_front c

-- A call takes the first of what was left and leaves the others; or nothing was left; or the fault was next.
abbrev pub TakesFirst : {X Y : Type 0} → (Y → X) → Walk X → Result (Option Y) FieldFault → Walk X → Type 0
TakesFirst view old (Ok (Some y)) new = old ≡ first (view y) new
TakesFirst view old (Ok None) new = old ≡ ended
TakesFirst view old (Err e) new = old ≡ stopped_by e
