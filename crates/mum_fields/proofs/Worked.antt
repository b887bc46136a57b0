-- What the worked facts of messages say.
use Rattle.mum_fields.proofs.Common.{◌≡◌, ℕ, List, length, Result, Ok, Err, ⊤, MessageFault, MissingField, encode, chars, is_utf8, varint, shortest, varint_in_front, bytes_at, fixed8_at, fixed4_at, value_at, field_at, walk, Table, parts, decoded, spelled, surveyed}
use Rattle.mum_fields.specs.declared.message.MessageFault.TheVariants.{Field}

-- what a fact computes with that is decoded or written: a line `unfolding messages` opens all of these
unfoldable pub messages : Type 0
unfolding varint varint_in_front bytes_at fixed8_at fixed4_at value_at field_at walk shortest is_utf8 chars encode
messages = Unit {0}

-- a payload is decoded as this message
abbrev pub IsRead : {M : Type 0} → (rows : Table M) → List ℕ → M → Type 0
IsRead rows payload m = decoded rows payload ≡ Ok (parts rows m)

-- a payload is decoded as this message, which is written otherwise, and a survey of the payload says how long that is
abbrev pub IsRespelled : {M : Type 0} → (rows : Table M) → List ℕ → M → List ℕ → Type 0
IsRespelled rows payload m own = IsRead rows payload m × (spelled rows m ≡ own) × (surveyed rows payload ≡ Ok (length own))

-- a message is written as this payload, which is decoded as it
abbrev pub IsSpelled : {M : Type 0} → (rows : Table M) → M → List ℕ → Type 0
IsSpelled rows m payload = IsRespelled rows payload m payload

-- a payload has a fault of this code at this place
abbrev pub stopped : {X : Type 0} → ℕ → ℕ → Result X MessageFault
stopped code place = Err (Field (record { code = code; at = place }))

-- the required field of this number is missing
abbrev pub misses : {X : Type 0} → ℕ → Result X MessageFault
misses number = Err (MissingField number)

-- the same without what is decoded
abbrev pub end_of : {X : Type 0} → Result X MessageFault → Result ⊤ MessageFault
end_of (Ok x) = Ok tt
end_of (Err e) = Err e

abbrev pub fine : Result ⊤ MessageFault
fine = Ok tt
