use Rattle.mum_fields.proofs.Common.{arith, common_steps, block_item}
use Rattle.mum_fields.proofs.Sizes.{size-more}
use Rattle.mum_fields.proofs.length.Length.each_text.Goals as goal

pub loop-text-preserved : goal.loop-text-preserved
loop-text-preserved c =
    size-more (block_item c.args.number) c.args.list.now c.loop-text.text-index c.text-item.result c.args.self c.loop-text.length _ _ (grind (arith, common_steps)) (grind (arith, common_steps)) c.loop-text.invariant (grind (arith, common_steps)) c.plus-length.ensures
