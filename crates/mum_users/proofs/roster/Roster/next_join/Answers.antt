use Rattle.mum_users.proofs.Slots.{IsLeastFree-free_slot_from}
use Rattle.mum_users.proofs.roster.Roster.next_join.Goals as goal

pub returns-clause-least : goal.returns-clause-least
returns-clause-least c =
    rw (← c.self.view_is, c.free_slot-slot.ensures.least, c.as_slice.ensures.value) (IsLeastFree-free_slot_from _ c.self.inside.users.items c.self.invariant.proper.slots)
