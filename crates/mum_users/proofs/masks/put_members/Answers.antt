use Rattle.mum_users.proofs.Common.{arith}
use Rattle.mum_users.proofs.{MaskRows.Rises-with_mask, Members.one_more_user}
use Rattle.mum_users.proofs.masks.put_members.Goals as goal

pub users-preserved : goal.users-preserved
users-preserved c = record {
  rest = omega arith;
  items = one_more_user c.args.users.now _ _ c.users.rest _ (omega arith) (omega arith) c.index-users-rest.is c.users.invariant.items c.set_slot.ensures.items;
  rise = rw c.set_slot.ensures.items (Rises-with_mask _ _ c.users.invariant.rise);
  room = omega arith;
  capacity = omega arith;
}
