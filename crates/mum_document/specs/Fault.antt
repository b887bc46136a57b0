-- What is said against a document, and where in it.
use Rattle.std.specs.Prelude.{ℕ, Bool, List, [], ◌++◌, Option, Some, None, codes, decimal, if◌then◌else◌}
use Rattle.mum_document.specs.declared.fault.ConfigFault.{ConfigFault}
use Rattle.mum_document.specs.declared.fault.ConfigFault.TheVariants.{NotJson, NotAnObject, UnknownKey, WrongKind, OutOfRange, BadName, BadDigest, Twice, NoSuch, Limit}

-- the number by which a fault is reported, in the order in which faults are looked for at one key
abbrev pub fault_code : ConfigFault → ℕ
fault_code NotJson = 60
fault_code NotAnObject = 61
fault_code UnknownKey = 62
fault_code WrongKind = 63
fault_code OutOfRange = 64
fault_code BadName = 65
fault_code BadDigest = 66
fault_code Twice = 67
fault_code NoSuch = 68
fault_code Limit = 69

-- a cause, and the way from a value to the part of it that is wrong, as it is printed
pub record Fault : Type 0 where
  pub cause : ConfigFault
  pub key : List ℕ

-- where this holds, the cause is of the value itself
abbrev pub against : ConfigFault → Bool → Option Fault
against cause holds = if holds then Some (record { cause = cause; key = [] }) else None

-- the first of two that applies
unfoldable pub or_else : Option Fault → Option Fault → Option Fault
or_else (Some fault) later = Some fault
or_else None later = later

-- what is said against a part, seen from the value that it is a part of
unfoldable pub within : List ℕ → Option Fault → Option Fault
within way None = None
within way (Some fault) = Some (record fault { key = way ++ fault.key })

-- the way to an element of a list, by its place from 0
abbrev pub place_text : ℕ → List ℕ
place_text place = codes "[" ++ decimal place ++ codes "]"
