use Rattle.mum_fields.proofs.Common.{◌<◌, ◌^◌, length, arith, IsUtf8, err_from_is_err_and, common_steps, take_all, All-more, IsText}
use Rattle.mum_fields.proofs.writer.Writer.put_each_text.Goals as goal

pub loop-text-preserved : goal.loop-text-preserved
loop-text-preserved c =
    let text = c.text-item.result in
    let utf8 : IsUtf8 text = c.as_str.ensures.utf8 in
    let short : length text < 2 ^ 64 = grind (arith, common_steps) in
    record {
      ok = grind (arith, common_steps);
      typed = All-more IsText c.args.list.now c.loop-text.text-index text (grind (arith, common_steps)) c.loop-text.invariant.typed (rw (← c.as_slice-text-items.ensures, ← c.text-item.is) (utf8, short));
    }

pub returns-clause-typed : goal.returns-clause-typed
returns-clause-typed c =
    let all = take_all c.loop-text.text-index c.args.list.now (grind (arith, common_steps)) in
    rw all at c.loop-text.invariant.typed

pub returns-in_err-put_block-clause-err : goal.returns-in_err-put_block-clause-err
returns-in_err-put_block-clause-err c =
    let p = err_from_is_err_and c.from_residual.result c.from_residual.ensures.1 in
    rw (p.1, c.in_err-put_block.ensures.err) (c.loop-text.text-index, c.loop-text.invariant.ok)
