use Rattle.mum_users.proofs.MaskRows.{Rises-with_mask}
use Rattle.mum_users.proofs.masks.move_slot.Goals as goal

pub set_slot-requires-clause-rise : goal.set_slot-requires-clause-rise
set_slot-requires-clause-rise c = rw c.clear_slot.ensures.items (Rises-with_mask _ _ c.requires.rise)
