use Rattle.mum_users.proofs.Common.{◌≡◌, drop, free_slot_from}
use Rattle.mum_users.proofs.sessions.free_slot.Given as goal

abbrev pub invariant-loop-slot : goal.invariant-loop-slot
invariant-loop-slot l = free_slot_from 0 l.users ≡ free_slot_from l.slot (drop l.slot l.users)
