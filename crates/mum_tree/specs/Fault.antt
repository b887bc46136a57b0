-- The faults of a tree: their numbers, and the cause that each names.
use Rattle.std.specs.Prelude.{ℕ, Option, Some, None}
use Rattle.mum_tree.specs.declared.fault.TreeFault.{TreeFault}
use Rattle.mum_tree.specs.declared.fault.TreeFault.TheVariants.{NoChannel, SameName, UnderItself, Nesting, Count, RootFixed, TemporaryParent, LinkCount, OutOfMemory}

-- out of memory has no number
abbrev pub fault_code : TreeFault → Option ℕ
fault_code NoChannel = Some 30
fault_code SameName = Some 31
fault_code UnderItself = Some 32
fault_code Nesting = Some 33
fault_code Count = Some 34
fault_code RootFixed = Some 35
fault_code TemporaryParent = Some 36
fault_code LinkCount = Some 37
fault_code OutOfMemory = None

-- the cause that an answer names: memory runs out only where no cause applies
abbrev pub named_cause : TreeFault → Option TreeFault
named_cause OutOfMemory = None
named_cause fault = Some fault
