-- What the fields of a payload come to without the message: how long its own encoding is, and what it misses.
use Rattle.std.specs.Prelude.{◌≡◌, ℕ, ◌-◌, ◌^◌, ◌&&◌, min, nat_le, Bool, true, List, [], ◌∷◌, map, length, Option, Some, None, Result, Ok, Err, ⊤}
use Rattle.std.specs.{List.list_all, Option.option_map}
use Rattle.mum_fields.specs.declared.{fault.FieldFault.FieldFault, message.MessageFault.MessageFault}
use Rattle.mum_fields.specs.declared.shape.{BlocksShape.BlocksShape, FieldShape.FieldShape, Kind.Kind, Label.Label}
use Rattle.mum_fields.specs.declared.shape.{Shape.Shape, Label.TheVariants.Repeated, Label.TheVariants.Optional}
use Rattle.mum_fields.specs.declared.pass.{Part.Part, TheConstants.FIELD_LIMIT}
use Rattle.mum_fields.specs.{Field.Entry, Field.last_number, Payload.Walk, Written.Item, Written.written}
use Rattle.mum_fields.specs.Message.{Rule, longer, message, messages_of, first_fault, entry_fault, value_fault}
use Rattle.mum_fields.specs.Table.{Value, Layout, Nothing, Field, Blocks, Values, Table, layout, rising, no_values, value_after, values_after, one_in, all_in, rule_of, rules, one_item, each_item, row_items, each_message, items, least, missing, missing_in, decoded}
use Rattle.mum_fields.specs.declared.shape.Shape.TheVariants as shapes

-- ---- the length of an encoding, as far as 64 bits count it

-- a number, or the greatest of 64 bits where it is above
abbrev pub cut : ℕ → ℕ
cut n = min n (2 ^ 64 - 1)

-- the bytes that items are written with
abbrev pub size : List Item → ℕ
size items = cut (length (written items))

-- the first fault of a payload, or the length of the encoding of the message that it is
abbrev pub spelled_size : (form : Layout) → Result (Values form) MessageFault → Result ℕ MessageFault
spelled_size form (Ok values) = Ok (size (items form values))
spelled_size form (Err e) = Err e

abbrev pub surveyed : {M : Type 0} → (rows : Table M) → List ℕ → Result ℕ MessageFault
surveyed rows payload = spelled_size (layout rows) (decoded rows payload)

-- ---- fields as data

-- a field, or a repeated field of messages with these fields
pub data Slot : Type 0 where
  Single : FieldShape → Slot
  Many : List FieldShape → ℕ → Slot

abbrev pub slot_of : Shape → Slot
slot_of (shapes.Field field) = Single field
slot_of (shapes.Blocks blocks) = Many blocks.inside.now blocks.number

abbrev pub number_of : Slot → ℕ
number_of (Single field) = field.number
number_of (Many inside number) = number

abbrev pub label_of : Slot → Label
label_of (Single field) = field.label
label_of (Many inside number) = Repeated

-- the layout of a message without blocks
abbrev pub flat : List FieldShape → Layout
flat [] = Nothing
flat (field ∷ fields) = Field field.label field.kind field.number (flat fields)

abbrev pub layer : Slot → Layout → Layout
layer (Single field) others = Field field.label field.kind field.number others
layer (Many inside number) others = Blocks (flat inside) number others

abbrev pub form_of : List Slot → Layout
form_of [] = Nothing
form_of (slot ∷ slots) = layer slot (form_of slots)

abbrev pub has_number : FieldShape → Bool
has_number field = nat_le field.number last_number

-- the fields inside are no more than the pass has room for, and their numbers rise
abbrev pub is_sound : Slot → Bool
is_sound (Single field) = has_number field
is_sound (Many inside number) =
    nat_le number last_number
    && (nat_le (length inside) FIELD_LIMIT && (list_all has_number inside && rising 0 (flat inside)))

-- the same of all fields of a message
abbrev pub has_room : List Slot → Bool
has_room slots = nat_le (length slots) FIELD_LIMIT && (list_all is_sound slots && rising 0 (form_of slots))

-- ---- what is kept of each field

abbrev pub Held : Slot → Type 0
Held (Single field) = Value field.label field.kind
Held (Many inside number) = List (Values (flat inside))

-- what is kept of a field's value
abbrev pub part_of : (slot : Slot) → Held slot → Part
part_of (Single field) value =
    record { length = size (row_items field.label field.kind field.number value); missing = None }
part_of (Many inside number) xs =
    record {
      length = size (each_message (items (flat inside)) number xs);
      missing = least
          (map (missing (flat inside)) xs);
    }

-- a field's value after one more field of the payload
abbrev pub held_after : (slot : Slot) → Held slot → Entry → Held slot
held_after (Single field) value e = value_after field.label field.kind field.number value (e ∷ [])
held_after (Many inside number) xs e =
    longer (messages_of (values_after (flat inside) (no_values (flat inside)))) number xs e

abbrev pub slot_rule : Slot → Rule
slot_rule (Single field) = rule_of field.label field.kind
slot_rule (Many inside number) = message (rules (flat inside))

abbrev pub own : (slot : Slot) → (others : Layout) → Values (layer slot others) → Held slot
own (Single field) others values = values.0
own (Many inside number) others values = values.0

abbrev pub later : (slot : Slot) → (others : Layout) → Values (layer slot others) → Values others
later (Single field) others values = values.1
later (Many inside number) others values = values.1

-- the first of the parts are what is kept of the values
abbrev pub AreParts : (slots : List Slot) → Values (form_of slots) → List Part → Type 0
AreParts [] values parts = Unit {0}
AreParts (slot ∷ slots) values [] = ⊥
AreParts (slot ∷ slots) values (part ∷ parts) =
    (part ≡ part_of slot (own slot (form_of slots) values)) × AreParts slots (later slot (form_of slots) values) parts

-- what a field misses, where it is known which later fields are set
abbrev pub own_missing : (slot : Slot) → Held slot → (ℕ → Bool) → Option ℕ
own_missing (Single field) value is_later_set = missing_in field.label field.kind field.number value is_later_set
own_missing (Many inside number) xs is_later_set = least (map (missing (flat inside)) xs)

-- ---- what a call answers

abbrev pub answered : {X : Type 0} → Option FieldFault → X → Result X FieldFault
answered (Some fault) x = Err fault
answered None x = Ok x

-- What is kept of a field's value after one more field of the payload of its number, or the fault of that.
abbrev pub Grows : Slot → Part → Entry → Result Part FieldFault → Type 0
Grows slot before e result =
    (held : Held slot) → before ≡ part_of slot held
    → result ≡ answered (value_fault (slot_rule slot) e) (part_of slot (held_after slot held e))

-- A call took a field of the payload into the parts, or it reported its fault.
abbrev pub Takes : (slots : List Slot) → Values (form_of slots) → Entry → Result ⊤ FieldFault → List Part → Type 0
Takes slots values e (Ok done) parts =
    (entry_fault (rules (form_of slots)) e ≡ None) × AreParts slots (values_after (form_of slots) values (e ∷ [])) parts
Takes slots values e (Err fault) parts = entry_fault (rules (form_of slots)) e ≡ Some fault

abbrev pub whole_part : (form : Layout) → Values form → Part
whole_part form values = record { length = size (items form values); missing = missing form values }

-- what fields come to: their first fault, or the length of what they make and what that misses
abbrev pub outlined : (form : Layout) → Walk Entry → Result Part FieldFault
outlined form found =
    answered (first_fault (rules form) found.items found.fault)
    (whole_part form (values_after form (no_values form) found.items))

-- the size of the value that a field gives, if it gives one
abbrev pub one_size : (kind : Kind) → ℕ → Entry → Result (Option ℕ) FieldFault
one_size kind number e =
    answered (value_fault (rule_of Optional kind) e)
    (option_map (λ x. size (one_item kind number (Some x))) (one_in kind e))

-- the size of all values that a field gives
abbrev pub all_size : (kind : Kind) → ℕ → Entry → Result ℕ FieldFault
all_size kind number e = answered (value_fault (rule_of Repeated kind) e) (size (each_item kind number (all_in kind e)))
