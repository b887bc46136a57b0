-- What a message takes from the fields of a payload, from left to right. Each definition goes on from what
-- came before: so "what is there so far, and then the rest" is the same as all at once.
use Rattle.std.specs.Prelude.{◌≡◌, ℕ, take, ◌==◌, List, [], ◌∷◌, ◌++◌, map, Option, Some, None, Result, Ok, Err, IsOk, if◌then◌else◌}
use Rattle.std.specs.Str.{is_utf8}
use Rattle.mum_fields.specs.declared.fault.{FaultKind.TheVariants.BadText, FieldFault.FieldFault}
use Rattle.mum_fields.specs.declared.message.MessageFault.{MessageFault}
use Rattle.mum_fields.specs.declared.message.MessageFault.TheVariants.{Field, MissingField, OutOfMemory}
use Rattle.mum_fields.specs.{Fault.fault, Field.Entry, Payload.Walk, Payload.fields, Payload.packed}
use Rattle.mum_fields.specs.Content.{Content, Varint, Fixed8, Block, Fixed4}

-- ---- values: a singular number has its last value, a repeated one all of them

abbrev pub or_else : {X : Type 0} → Option X → Option X → Option X
or_else (Some x) other = Some x
or_else None other = other

abbrev pub varint_in : {X : Type 0} → (ℕ → X) → Content → Option X
varint_in value (Varint n) = Some (value n)
varint_in value (Fixed8 n) = None
varint_in value (Block block) = None
varint_in value (Fixed4 n) = None

-- a field of the wire type of varints, read as a value of some type
abbrev pub varint_of : {X : Type 0} → (ℕ → X) → Entry → Option X
varint_of value e = varint_in value e.content

abbrev pub block_in : Content → Option (List ℕ)
block_in (Varint n) = None
block_in (Fixed8 n) = None
block_in (Block block) = Some block
block_in (Fixed4 n) = None

-- a field that is a block: bytes, a text or a message
abbrev pub block_of : Entry → Option (List ℕ)
block_of e = block_in e.content

-- a field of this number and wire type takes the place of what came before
abbrev pub newer : {X : Type 0} → (Entry → Option X) → ℕ → Option X → Entry → Option X
newer taken number before e = if e.number == number then or_else (taken e) before else before

abbrev pub last : {X : Type 0} → (Entry → Option X) → ℕ → Option X → List Entry → Option X
last taken number before [] = before
last taken number before (e ∷ es) = last taken number (newer taken number before e) es

abbrev pub numbers_in : {X : Type 0} → (ℕ → X) → ℕ → Content → List X
numbers_in value place (Varint n) = value n ∷ []
numbers_in value place (Fixed8 n) = []
numbers_in value place (Block block) = map value (packed (record { place = place; rest = block })).items
numbers_in value place (Fixed4 n) = []

-- the numbers of one field of a repeated number: a single one, or those packed in a block
abbrev pub numbers_of : {X : Type 0} → (ℕ → X) → Entry → List X
numbers_of value e = numbers_in value e.place e.content

abbrev pub blocks_in : Content → List (List ℕ)
blocks_in (Varint n) = []
blocks_in (Fixed8 n) = []
blocks_in (Block block) = block ∷ []
blocks_in (Fixed4 n) = []

abbrev pub blocks_of : Entry → List (List ℕ)
blocks_of e = blocks_in e.content

abbrev pub messages_in : {X : Type 0} → (List Entry → X) → ℕ → Content → List X
messages_in make place (Varint n) = []
messages_in make place (Fixed8 n) = []
messages_in make place (Block block) = make (fields (record { place = place; rest = block })).items ∷ []
messages_in make place (Fixed4 n) = []

-- a field that is a message in a block: what its own fields make
abbrev pub messages_of : {X : Type 0} → (List Entry → X) → Entry → List X
messages_of make e = messages_in make e.place e.content

-- a field of this number adds to what came before
abbrev pub longer : {X : Type 0} → (Entry → List X) → ℕ → List X → Entry → List X
longer taken number before e = if e.number == number then before ++ taken e else before

abbrev pub every : {X : Type 0} → (Entry → List X) → ℕ → List X → List Entry → List X
every taken number before [] = before
every taken number before (e ∷ es) = every taken number (longer taken number before e) es

-- ---- faults: what a block of a number has to be, by its place and its bytes

abbrev pub Rule : Type 0
Rule = ℕ → List ℕ → Option FieldFault

-- bytes, or a number that is not known
abbrev pub any_block : Rule
any_block place block = None

abbrev pub text : Rule
text place block = if is_utf8 block then None else Some (fault BadText place)

abbrev pub packed_numbers : Rule
packed_numbers place block = (packed (record { place = place; rest = block })).fault

abbrev pub fault_in : Rule → ℕ → Content → Option FieldFault
fault_in rule place (Varint n) = None
fault_in rule place (Fixed8 n) = None
fault_in rule place (Block block) = rule place block
fault_in rule place (Fixed4 n) = None

abbrev pub value_fault : Rule → Entry → Option FieldFault
value_fault rule e = fault_in rule e.place e.content

-- a rule for the blocks of one number
abbrev pub only : ℕ → Rule → ℕ → Rule
only number rule n = if n == number then rule else any_block

-- a field's own fault, by the rule of its number
abbrev pub entry_fault : (ℕ → Rule) → Entry → Option FieldFault
entry_fault rules e = value_fault (rules e.number) e

-- the first from left to right, in a value or after the last field that is whole
abbrev pub first_fault : (ℕ → Rule) → List Entry → Option FieldFault → Option FieldFault
first_fault rules [] end = end
first_fault rules (e ∷ es) end = or_else (entry_fault rules e) (first_fault rules es end)

-- a message in a message; its places are those of the whole payload
abbrev pub message : (ℕ → Rule) → Rule
message rules place block = let inside = fields
    (record { place = place; rest = block }) in first_fault rules inside.items inside.fault

-- ---- what is decoded: the first fault, or what the fields make

abbrev pub unless : {M : Type 0} → Option FieldFault → M → Result M MessageFault
unless (Some e) m = Err (Field e)
unless None m = Ok m

abbrev pub outcome : {M : Type 0} → (ℕ → Rule) → (List Entry → M) → Walk Entry → Result M MessageFault
outcome rules make w = unless (first_fault rules w.items w.fault) (make w.items)

-- This is why it is not decoded; or memory ran out, and then this holds.
abbrev pub Refuses : {Y : Type 0} → Type 0 → MessageFault → Result Y MessageFault → Type 0
Refuses starved (Field e) decoded = decoded ≡ Err (Field e)
Refuses starved (MissingField number) decoded = decoded ≡ Err (MissingField number)
Refuses starved OutOfMemory decoded = starved

-- What a call answered, seen by view, is what is decoded. Memory runs out only where a message is decoded.
abbrev pub Decodes : {X Y : Type 0} → (X → Y) → Result X MessageFault → Result Y MessageFault → Type 0
Decodes view (Ok x) decoded = decoded ≡ Ok (view x)
Decodes view (Err e) decoded = Refuses (IsOk decoded) e decoded

-- The same where memory may run out before a fault.
abbrev pub Gathers : {X Y : Type 0} → (X → Y) → Result X MessageFault → Result Y MessageFault → Type 0
Gathers view (Ok x) gathered = gathered ≡ Ok (view x)
Gathers view (Err e) gathered = Refuses (Unit {0}) e gathered

-- A call failed by this fault of a field, or since memory ran out.
abbrev pub IsFaultOf : MessageFault → Option FieldFault → Type 0
IsFaultOf (Field e) found = found ≡ Some e
IsFaultOf (MissingField number) found = ⊥
IsFaultOf OutOfMemory found = Unit {0}

-- A refused call has added some of the elements to a list: those before the fault, or where memory ran out a
-- front of them.
abbrev pub KeepsFront : {X : Type 0} → MessageFault → List X → List X → List X → Type 0
KeepsFront (Field e) before more now = now ≡ before ++ more
KeepsFront (MissingField number) before more now = ⊥
KeepsFront OutOfMemory before more now = (count : ℕ) × (now ≡ before ++ take count more)

abbrev pub message_code : MessageFault → Option ℕ
message_code (Field e) = Some e.code
message_code (MissingField number) = Some 16
message_code OutOfMemory = None
