-- The numbers of faults.
use Rattle.std.specs.Prelude.{ℕ}
use Rattle.mum_fields.specs.declared.fault.{FaultKind.FaultKind, FieldFault.FieldFault}
use Rattle.mum_fields.specs.declared.fault.FaultKind.TheVariants.{Truncated, BadWireType, BadVarint, BadText, BadLength}

abbrev pub kind_code : FaultKind → ℕ
kind_code Truncated = 11
kind_code BadWireType = 12
kind_code BadVarint = 13
kind_code BadText = 14
kind_code BadLength = 15

abbrev pub fault : FaultKind → ℕ → FieldFault
fault kind place = record { code = kind_code kind; at = place }
