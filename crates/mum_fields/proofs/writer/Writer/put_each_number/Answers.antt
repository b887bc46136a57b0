use Rattle.mum_fields.proofs.Common.{err_from_is_err_and}
use Rattle.mum_fields.proofs.writer.Writer.put_each_number.Goals as goal

pub returns-in_err-put_varint-clause-err : goal.returns-in_err-put_varint-clause-err
returns-in_err-put_varint-clause-err g c =
    let p = err_from_is_err_and c.from_residual.result c.from_residual.ensures.1 in
    rw (p.1, c.in_err-put_varint.ensures.err) (c.loop-value.value-index, c.loop-value.invariant.ok)
