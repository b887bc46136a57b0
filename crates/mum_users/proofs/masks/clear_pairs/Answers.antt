use Rattle.mum_users.proofs.Common.{arith}
use Rattle.mum_users.proofs.{MaskRows.Rises-with_mask, Members.one_more_clear}
use Rattle.mum_users.proofs.masks.clear_pairs.Goals as goal

pub pairs-preserved : goal.pairs-preserved
pairs-preserved c = record {
  rest = omega arith;
  items = one_more_clear c.args.slot.0 c.args.pairs.now _ _ _ c.pairs.rest _ (omega arith) (omega arith) c.pairs.invariant.items c.clear_slot.ensures.items;
  rise = rw c.clear_slot.ensures.items (Rises-with_mask _ _ c.pairs.invariant.rise);
  len = omega arith;
  room = omega arith;
}
