-- Values of a document by their kinds: what is said against each, and what it is read as. A value that is read as
-- something although something is said against it is never used.
use Rattle.std.specs.Prelude.{ℕ, ℤ, pos, negsuc, ◌^◌, ◌-◌, ◌||◌, int_lt, nat_le, nat_lt, not, Bool, true, false, List, [], ◌∷◌, length, Option, Some, None, is_ok, is_some}
use Rattle.std.specs.{Option.option_and_then, Result.result_unwrap_or}
use Rattle.hex.specs.Hex.{decode_sized}
use Rattle.serde_json.specs.Data.{Data, Items, array, boolean, item, no_items, negative, number, string, unsigned}
use Rattle.mum_base.specs.Name.{name_fault as fault_of_name}
use Rattle.mum_document.specs.declared.fault.ConfigFault.TheVariants.{BadDigest, BadName, Limit, OutOfRange, WrongKind}
use Rattle.mum_document.specs.Fault.{Fault, against}

-- a key that may be left out
unfoldable pub wanted : (Data → Option Fault) → Option Data → Option Fault
wanted fault found = option_and_then fault found

-- a key that must be there: a value that is missing is of the wrong kind
unfoldable pub needed : (Data → Option Fault) → Option Data → Option Fault
needed fault None = against WrongKind true
needed fault (Some value) = fault value

-- the greatest number of 32 bits
abbrev pub greatest : ℕ
greatest = 2 ^ 32 - 1

-- ---- numbers. One that is no integer of 64 bits, or is written as a fraction, is kept as a float

abbrev pub number_fault : ℕ → ℕ → Data → Option Fault
number_fault low high (number (unsigned n)) = against OutOfRange (nat_lt n low || nat_lt high n)
number_fault low high (number (negative n)) = against OutOfRange true
number_fault low high value = against WrongKind true

abbrev pub number_of : Data → ℕ
number_of (number (unsigned n)) = n
number_of value = 0

-- of 32 bits with a sign
abbrev pub signed_fault : Data → Option Fault
signed_fault (number (unsigned n)) = against OutOfRange (nat_le (2 ^ 31) n)
signed_fault (number (negative n)) = against OutOfRange (int_lt n (negsuc (2 ^ 31 - 1)))
signed_fault value = against WrongKind true

abbrev pub signed_of : Data → ℤ
signed_of (number (unsigned n)) = pos n
signed_of (number (negative n)) = n
signed_of value = pos 0

-- ---- flags

abbrev pub flag_fault : Data → Option Fault
flag_fault (boolean flag) = None
flag_fault value = against WrongKind true

abbrev pub flag_of : Data → Bool
flag_of (boolean flag) = flag
flag_of value = false

-- ---- texts

-- of at most n bytes
abbrev pub text_fault : ℕ → Data → Option Fault
text_fault limit (string text) = against Limit (nat_lt limit (length text))
text_fault limit value = against WrongKind true

abbrev pub name_fault : Data → Option Fault
name_fault (string text) = against BadName (is_some (fault_of_name text))
name_fault value = against WrongKind true

abbrev pub text_of : Data → List ℕ
text_of (string text) = text
text_of value = []

-- 32 bytes in hexadecimal digits of either case
abbrev pub digest_fault : Data → Option Fault
digest_fault (string text) = against BadDigest (not (is_ok (decode_sized text 32)))
digest_fault value = against WrongKind true

abbrev pub digest_of : Data → List ℕ
digest_of value = result_unwrap_or (decode_sized (text_of value) 32) []

-- ---- lists

abbrev pub elements_in : Items → List Data
elements_in no_items = []
elements_in (item value values) = value ∷ elements_in values

abbrev pub elements_of : Data → List Data
elements_of (array values) = elements_in values
elements_of value = []

-- of at most n elements
abbrev pub list_fault : ℕ → Data → Option Fault
list_fault limit (array values) = against Limit (nat_lt limit (length (elements_in values)))
list_fault limit value = against WrongKind true
