-- What is reported of a document in which there is a fault.
use Rattle.std.specs.Prelude.{◌≡◌, ⊤, ℕ, List, Option, Some}
use Rattle.std.specs.Option.{option_map}
use Rattle.mum_document.specs.Fault.{Fault, fault_code}
use Rattle.mum_config.specs.declared.refusal.BadConfig.{BadConfig}
use Rattle.mum_config.specs.declared.refusal.BadConfig.TheVariants as bad

-- the number of a fault, and the way to it
abbrev pub told_fault : Fault → ℕ × List ℕ
told_fault fault = (fault_code fault.cause, fault.key)

-- the error names this fault by its number, or memory ran out
abbrev pub NamesByCode : BadConfig → Option Fault → Type 0
NamesByCode (bad.Fault code key) fault = option_map told_fault fault ≡ Some (code, key)
NamesByCode bad.OutOfMemory fault = ⊤
