-- A cursor of the code as contracts see it.
use Rattle.std.specs.Prelude.{◌≡◌, Result, Ok, Err}
use Rattle.mum_fields.specs.declared.{fault.FieldFault.FieldFault, cursor.Cursor.Cursor as CodeCursor}
use Rattle.mum_fields.specs.Field.{Cursor}

abbrev pub cursor_of : CodeCursor → Cursor
cursor_of c = record { place = c.place; rest = c.rest.now }

-- What a step returned, seen by view, is what reading gives.
abbrev pub IsRead : {X Y : Type 0} → (X → Y) → Result X FieldFault → Result Y FieldFault → Type 0
IsRead view (Ok x) read = read ≡ Ok (view x)
IsRead view (Err e) read = read ≡ Err e
