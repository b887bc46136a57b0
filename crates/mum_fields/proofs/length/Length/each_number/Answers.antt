use Rattle.mum_fields.proofs.Common.{arith, common_steps, varint_item}
use Rattle.mum_fields.proofs.Sizes.{size-more}
use Rattle.mum_fields.proofs.length.Length.each_number.Goals as goal

pub loop-value-preserved : goal.loop-value-preserved
loop-value-preserved g c =
    size-more (λ x. varint_item c.args.number (g.N.VarintType.number_of x)) c.args.list.now c.loop-value.value-index c.value-item.result c.args.self c.loop-value.length _ _ (grind (arith, common_steps)) (grind (arith, common_steps)) c.loop-value.invariant (grind (arith, common_steps)) c.plus-length.ensures
