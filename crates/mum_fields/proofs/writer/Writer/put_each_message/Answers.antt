use Rattle.mum_fields.proofs.Common.{◌≡◌, ◌++◌, ◌<◌, length, ◌∙◌, ap, arith, common_steps, err_from_is_err_and, written, layout, parts, items, Values, AreTyped, IsBytes}
use Rattle.mum_fields.proofs.Puts.{All-next}
use Rattle.mum_fields.proofs.writer.Writer.put_each_message.Goals as goal

pub returns-in_err-put_block-clause-err : goal.returns-in_err-put_block-clause-err
returns-in_err-put_block-clause-err g c =
    let p = err_from_is_err_and c.from_residual-in_err-put_block.result c.from_residual-in_err-put_block.ensures.1 in
    rw (p.1, c.in_err-put_block.ensures.err) (c.loop-message.message-index, c.loop-message.invariant.ok)

pub returns-in_err-block-clause-err : goal.returns-in_err-block-clause-err
returns-in_err-block-clause-err g c =
    let p = err_from_is_err_and c.from_residual.result c.from_residual.ensures.1 in
    rw p.1 (c.loop-message.message-index, c.loop-message.invariant.ok)

pub loop-message-preserved : goal.loop-message-preserved
loop-message-preserved g c =
    let rows = g.M.Message.rows in
    let message = c.message-item.result in
    let own = written (items (layout rows) (parts rows message)) in
    let block : c.as_slice-in-loop-message.result.now ≡ own = c.as_slice-in-loop-message.ensures ∙ c.finish.ensures ∙ c.in_ok-block.ensures.ok ∙ ap (λ before. before ++ own) c.fresh.ensures in
    let short : length own < 18446744073709551616 = grind (arith, common_steps) in
    let is_typed = λ (x : Values (layout rows)). AreTyped (layout rows) x × IsBytes (written (items (layout rows) x)) in
    record {
      ok = grind (arith, common_steps);
      typed = All-next is_typed (parts rows) c.args.list.now c.loop-message.message-index message (grind (arith, common_steps)) (rw c.as_slice-message-items.ensures at c.message-item.is) c.loop-message.invariant.typed (c.in_ok-block.ensures.typed, short);
    }
