-- The faults of calls on a roster: their numbers and their causes.
use Rattle.std.specs.Prelude.{ℕ, Option, Some, None}
use Rattle.mum_users.specs.declared.fault.UserFault.{UserFault}
use Rattle.mum_users.specs.declared.fault.UserFault.TheVariants.{NameInUse, Full, NoSession, ListenerLimit, UserListenerLimit, TargetId, TargetSize, SessionsUsedUp, OutOfMemory}

-- the number of each fault; out of memory has none
abbrev pub fault_code : UserFault → Option ℕ
fault_code NameInUse = Some 40
fault_code Full = Some 41
fault_code NoSession = Some 42
fault_code ListenerLimit = Some 43
fault_code UserListenerLimit = Some 44
fault_code TargetId = Some 45
fault_code TargetSize = Some 46
fault_code SessionsUsedUp = Some 47
fault_code OutOfMemory = None

-- the cause that a fault names; out of memory names none
abbrev pub named_cause : UserFault → Option UserFault
named_cause OutOfMemory = None
named_cause fault = Some fault
