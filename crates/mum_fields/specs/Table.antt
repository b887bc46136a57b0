-- Messages as tables. A table has a row for each field, in the order of their numbers: its label, type and
-- number as Mumble.proto gives them, and the part of the message that it is. A field whose type is a message
-- has the layout of that message: its labels, types and numbers. What a payload decodes to and how a message
-- is encoded follow from the layout.
use Rattle.std.specs.Prelude.{◌≡◌, ℕ, ℤ, Bool, true, false, List, [], ◌∷◌, ◌++◌, map, min, ◌==◌, nat_lt, nat_le, ◌&&◌, Option, Some, None, Result, Ok, Err, if◌then◌else◌}
use Rattle.mum_fields.specs.declared.message.MessageFault.{MessageFault}
use Rattle.mum_fields.specs.declared.message.MessageFault.TheVariants.{MissingField, OutOfMemory}
use Rattle.mum_fields.specs.declared.shape.Kind.{Kind, TheVariants.Number, TheVariants.Utf8, TheVariants.Raw}
use Rattle.mum_fields.specs.declared.shape.{Label.Label, Scalar.Scalar}
use Rattle.mum_fields.specs.declared.shape.Label.TheVariants.{Optional, Required, RequiredOr, Repeated}
use Rattle.mum_fields.specs.declared.shape.Scalar.TheVariants.{Unsigned32, Unsigned64, Signed32, Truth}
use Rattle.mum_fields.specs.Number.{low_32, signed_32, truth, extended, truth_number}
use Rattle.mum_fields.specs.{Field.Entry, Field.last_number, Payload.Walk, Payload.at_start, Payload.fields}
use Rattle.mum_fields.specs.Written.{Item, written, block_item, number_items, block_items, each_number, each_block}
use Rattle.mum_fields.specs.Message.{Decodes, Rule, any_block, text, packed_numbers, message, varint_of, block_of, blocks_of, messages_of, numbers_of, last, every, outcome}

-- ---- types: those of numbers, texts and bytes

-- the types under their names in Mumble.proto
abbrev pub uint32 : Kind
uint32 = Number Unsigned32

abbrev pub uint64 : Kind
uint64 = Number Unsigned64

abbrev pub int32 : Kind
int32 = Number Signed32

abbrev pub bool : Kind
bool = Number Truth

abbrev pub string : Kind
string = Utf8

abbrev pub bytes : Kind
bytes = Raw

-- one value of a type
abbrev pub Scalar_of : Scalar → Type 0
Scalar_of Unsigned32 = ℕ
Scalar_of Unsigned64 = ℕ
Scalar_of Signed32 = ℤ
Scalar_of Truth = Bool

abbrev pub One : Kind → Type 0
One (Number scalar) = Scalar_of scalar
One Utf8 = List ℕ
One Raw = List ℕ

-- what a message has of a field
abbrev pub Value : Label → Kind → Type 0
Value Optional kind = Option (One kind)
Value Required kind = Option (One kind)
Value (RequiredOr other) kind = Option (One kind)
Value Repeated kind = List (One kind)

-- ---- layouts and tables

-- the fields of a message: one of a type with its number, or a repeated one of blocks that are messages
pub data Layout : Type 0 where
  Nothing : Layout
  Field : Label → Kind → ℕ → Layout → Layout
  Blocks : Layout → ℕ → Layout → Layout

-- a value for each field
abbrev pub Values : Layout → Type 0
Values Nothing = Unit {0}
Values (Field label kind number others) = Value label kind × Values others
Values (Blocks inside number others) = List (Values inside) × Values others

pub data Row (M : Type 0) : Type 0 where
  FieldRow : (label : Label) → (kind : Kind) → ℕ → (M → Value label kind) → Row M
  BlocksRow : (inside : Layout) → ℕ → (M → List (Values inside)) → Row M

abbrev pub Table : Type 0 → Type 0
Table M = List (Row M)

abbrev pub layout : {M : Type 0} → Table M → Layout
layout [] = Nothing
layout (FieldRow label kind number part ∷ rows) = Field label kind number (layout rows)
layout (BlocksRow inside number part ∷ rows) = Blocks inside number (layout rows)

-- the values of a message
abbrev pub parts : {M : Type 0} → (rows : Table M) → M → Values (layout rows)
parts [] m = tt
parts (FieldRow label kind number part ∷ rows) m = (part m, parts rows m)
parts (BlocksRow inside number part ∷ rows) m = (part m, parts rows m)

abbrev pub optional : {M : Type 0} → (kind : Kind) → ℕ → (M → Option (One kind)) → Row M
optional kind number part = FieldRow Optional kind number part

abbrev pub required : {M : Type 0} → (kind : Kind) → ℕ → (M → Option (One kind)) → Row M
required kind number part = FieldRow Required kind number part

abbrev pub required_or : {M : Type 0} → ℕ → (kind : Kind) → ℕ → (M → Option (One kind)) → Row M
required_or other kind number part = FieldRow (RequiredOr other) kind number part

abbrev pub repeated : {M : Type 0} → (kind : Kind) → ℕ → (M → List (One kind)) → Row M
repeated kind number part = FieldRow Repeated kind number part

-- a repeated field of messages that have this table
abbrev pub repeated_message : {M B : Type 0} → Table B → ℕ → (M → List B) → Row M
repeated_message rows number part = BlocksRow (layout rows) number (λ m. map (parts rows) (part m))

-- the numbers rise, and each is one that a field can have; in blocks too
abbrev pub rising : ℕ → Layout → Bool
rising low Nothing = true
rising low (Field label kind number others) = nat_lt low number && (nat_le number last_number && rising number others)
rising low (Blocks inside number others) =
    nat_lt low number && (nat_le number last_number && (rising 0 inside && rising number others))

-- ---- reading

abbrev pub value_of : (scalar : Scalar) → ℕ → Scalar_of scalar
value_of Unsigned32 n = low_32 n
value_of Unsigned64 n = n
value_of Signed32 n = signed_32 n
value_of Truth n = truth n

-- what one field of a payload sets or adds
abbrev pub one_in : (kind : Kind) → Entry → Option (One kind)
one_in (Number scalar) = varint_of (value_of scalar)
one_in Utf8 = block_of
one_in Raw = block_of

abbrev pub all_in : (kind : Kind) → Entry → List (One kind)
all_in (Number scalar) = numbers_of (value_of scalar)
all_in Utf8 = blocks_of
all_in Raw = blocks_of

-- nothing is set
abbrev pub unset : (label : Label) → (kind : Kind) → Value label kind
unset Optional kind = None
unset Required kind = None
unset (RequiredOr other) kind = None
unset Repeated kind = []

abbrev pub no_values : (fields : Layout) → Values fields
no_values Nothing = tt
no_values (Field label kind number others) = (unset label kind, no_values others)
no_values (Blocks inside number others) = ([], no_values others)

-- a singular field has its last value, a repeated one all of them
abbrev pub value_after : (label : Label) → (kind : Kind) → ℕ → Value label kind → List Entry → Value label kind
value_after Optional kind number before es = last (one_in kind) number before es
value_after Required kind number before es = last (one_in kind) number before es
value_after (RequiredOr other) kind number before es = last (one_in kind) number before es
value_after Repeated kind number before es = every (all_in kind) number before es

abbrev pub values_after : (fields : Layout) → Values fields → List Entry → Values fields
values_after Nothing values es = tt
values_after (Field label kind number others) values es =
    (value_after label kind number values.0 es, values_after others values.1 es)
values_after (Blocks inside number others) values es =
    (every (messages_of (values_after inside (no_values inside))) number values.0 es, values_after others values.1 es)

-- what a block of a field has to be
abbrev pub rule_of : Label → Kind → Rule
rule_of Repeated (Number scalar) = packed_numbers
rule_of Optional (Number scalar) = any_block
rule_of Required (Number scalar) = any_block
rule_of (RequiredOr other) (Number scalar) = any_block
rule_of label Utf8 = text
rule_of label Raw = any_block

-- of numbers that have no field any block will do
abbrev pub rules : Layout → ℕ → Rule
rules Nothing n = any_block
rules (Field label kind number others) n = if n == number then rule_of label kind else rules others n
rules (Blocks inside number others) n = if n == number then message (rules inside) else rules others n

-- ---- what is missing

-- the lesser of two numbers, or the one that there is
abbrev pub lesser : Option ℕ → Option ℕ → Option ℕ
lesser None other = other
lesser (Some n) None = Some n
lesser (Some n) (Some other) = Some (min n other)

abbrev pub least : List (Option ℕ) → Option ℕ
least [] = None
least (number ∷ numbers) = lesser number (least numbers)

abbrev pub has_items : {X : Type 0} → List X → Bool
has_items [] = false
has_items (x ∷ xs) = true

abbrev pub has_value : (label : Label) → (kind : Kind) → Value label kind → Bool
has_value Optional kind None = false
has_value Optional kind (Some x) = true
has_value Required kind None = false
has_value Required kind (Some x) = true
has_value (RequiredOr other) kind None = false
has_value (RequiredOr other) kind (Some x) = true
has_value Repeated kind values = has_items values

-- the field of this number is set
abbrev pub is_set : (fields : Layout) → Values fields → ℕ → Bool
is_set Nothing values n = false
is_set (Field label kind number others) values n =
    if n == number then has_value label kind values.0 else is_set others values.1 n
is_set (Blocks inside number others) values n = if n == number then has_items values.0 else is_set others values.1 n

abbrev pub missing_in : (label : Label) → (kind : Kind) → ℕ → Value label kind → (ℕ → Bool) → Option ℕ
missing_in Optional kind number value is_later_set = None
missing_in Required kind number (Some x) is_later_set = None
missing_in Required kind number None is_later_set = Some number
missing_in (RequiredOr other) kind number (Some x) is_later_set = None
missing_in (RequiredOr other) kind number None is_later_set = if is_later_set other then None else Some number
missing_in Repeated kind number values is_later_set = None

-- the least required number that is not set, in the message or in a block of it
abbrev pub missing : (fields : Layout) → Values fields → Option ℕ
missing Nothing values = None
missing (Field label kind number others) values =
    lesser (missing_in label kind number values.0 (is_set others values.1)) (missing others values.1)
missing (Blocks inside number others) values = lesser (least (map (missing inside) values.0)) (missing others values.1)

-- ---- what is decoded

abbrev pub unless_missing : {X : Type 0} → Option ℕ → X → Result X MessageFault
unless_missing (Some number) x = Err (MissingField number)
unless_missing None x = Ok x

abbrev pub whole : (fields : Layout) → Result (Values fields) MessageFault → Result (Values fields) MessageFault
whole fields (Ok values) = unless_missing (missing fields values) values
whole fields (Err e) = Err e

-- what fields of a payload give: their first fault, or the values that they make
abbrev pub gathered : (fields : Layout) → Walk Entry → Result (Values fields) MessageFault
gathered fields found = outcome (rules fields) (values_after fields (no_values fields)) found

-- the values that a payload gives, or its first fault; and where it has none, the least number that is missing
abbrev pub decoded_by : (form : Layout) → List ℕ → Result (Values form) MessageFault
decoded_by form payload = whole form (gathered form (fields (at_start payload)))

-- the same by the table of a message
abbrev pub decoded : {M : Type 0} → (rows : Table M) → List ℕ → Result (Values (layout rows)) MessageFault
decoded rows payload = decoded_by (layout rows) payload

-- ---- writing

abbrev pub scalar_number : (scalar : Scalar) → Scalar_of scalar → ℕ
scalar_number Unsigned32 n = n
scalar_number Unsigned64 n = n
scalar_number Signed32 n = extended n
scalar_number Truth b = truth_number b

abbrev pub one_item : (kind : Kind) → ℕ → Option (One kind) → List Item
one_item (Number scalar) number value = number_items (scalar_number scalar) number value
one_item Utf8 number value = block_items number value
one_item Raw number value = block_items number value

abbrev pub each_item : (kind : Kind) → ℕ → List (One kind) → List Item
each_item (Number scalar) number values = each_number (scalar_number scalar) number values
each_item Utf8 number values = each_block number values
each_item Raw number values = each_block number values

abbrev pub row_items : (label : Label) → (kind : Kind) → ℕ → Value label kind → List Item
row_items Optional kind number value = one_item kind number value
row_items Required kind number value = one_item kind number value
row_items (RequiredOr other) kind number value = one_item kind number value
row_items Repeated kind number values = each_item kind number values

-- each message in a block of its own
abbrev pub each_message : {X : Type 0} → (X → List Item) → ℕ → List X → List Item
each_message inside number xs = map (λ x. block_item number (written (inside x))) xs

abbrev pub items : (fields : Layout) → Values fields → List Item
items Nothing values = []
items (Field label kind number others) values = row_items label kind number values.0 ++ items others values.1
items (Blocks inside number others) values = each_message (items inside) number values.0 ++ items others values.1

-- the encoding of a message: each field that is set, in the order of the numbers
abbrev pub spelled : {M : Type 0} → (rows : Table M) → M → List ℕ
spelled rows m = written (items (layout rows) (parts rows m))

-- this message, or out of memory
abbrev pub IsItOrNoMemory : {M : Type 0} → M → Result M MessageFault → Type 0
IsItOrNoMemory m (Ok read) = read ≡ m
IsItOrNoMemory m (Err e) = e ≡ OutOfMemory

-- whatever `decode` may answer for the payload is this message, or out of memory
abbrev pub ReadsAs : {M : Type 0} → Table M → List ℕ → M → Type 0
ReadsAs {M} rows payload m =
    (read : Result M MessageFault) → Decodes (parts rows) read (decoded rows payload) → IsItOrNoMemory m read
