use Rattle.mum_fields.proofs.Common.{arith, common_steps, block_item, written, Values, layout, parts, items}
use Rattle.mum_fields.proofs.Sizes.{size-more-values}
use Rattle.mum_fields.proofs.length.Length.each_message.Goals as goal

pub loop-message-preserved : goal.loop-message-preserved
loop-message-preserved g c =
    let rows = g.M.Message.rows in
    let block = λ (x : Values (layout rows)). written (items (layout rows) x) in
    let message = c.message-item.result in
    size-more-values (parts rows) (λ x. block_item c.args.number (block x)) c.args.list.now c.loop-message.message-index message c.args.self c.loop-message.length _ _ (grind (arith, common_steps)) (grind (arith, common_steps)) c.loop-message.invariant (c.block_size.ensures (block (parts rows message)) c.length.ensures) c.plus-length.ensures
