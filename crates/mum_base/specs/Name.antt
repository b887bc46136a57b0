-- Which names and texts are refused, and for what.
use Rattle.std.specs.Prelude.{ℕ, ◌-◌, ◌||◌, ◌==◌, Bool, List, length, Option, Some, None, nat_lt, slice_index, if◌then◌else◌}
use Rattle.std.specs.List.{list_any}
use Rattle.mum_base.specs.declared.name.{TheConstants.NAME_LIMIT, TheConstants.TEXT_LIMIT, NameFault.NameFault}
use Rattle.mum_base.specs.declared.name.NameFault.TheVariants.{Empty, TooLong, ControlCharacter, EdgeSpace}

-- the number by which a cause is written
abbrev pub fault_code : NameFault → ℕ
fault_code Empty = 1
fault_code TooLong = 2
fault_code ControlCharacter = 3
fault_code EdgeSpace = 4

-- U+0000 to U+001F, and U+007F: each is one byte of UTF-8
abbrev pub is_control_byte : ℕ → Bool
is_control_byte byte = nat_lt byte 32 || (byte == 127)

-- the first byte or the last is a space
abbrev pub has_space_at_edge : List ℕ → Bool
has_space_at_edge name = (slice_index name 0 == 32) || (slice_index name (length name - 1) == 32)

-- the first cause that applies, in this order
abbrev pub name_fault : List ℕ → Option NameFault
name_fault name =
    if length name == 0 then Some Empty
    else if nat_lt NAME_LIMIT (length name) then Some TooLong
    else if list_any is_control_byte name then Some ControlCharacter
    else if has_space_at_edge name then Some EdgeSpace
    else None

-- a text of messages and descriptions is refused for its length alone
abbrev pub text_fault : List ℕ → Option NameFault
text_fault text = if nat_lt TEXT_LIMIT (length text) then Some TooLong else None
