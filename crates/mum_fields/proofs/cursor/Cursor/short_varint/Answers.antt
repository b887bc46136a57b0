use Rattle.mum_fields.proofs.Common.{◌∙◌, sym, cursor_of, skip}
use Rattle.mum_fields.proofs.Varints.{read-same, short-varint}
use Rattle.mum_fields.proofs.cursor.Cursor.short_varint.Goals as goal

pub returns : goal.returns
returns c =
    let byte = c.in_ok-byte.field-0.now in
    short-varint c.args.self.place byte c.args.self.rest.now c.in_ok-byte.ensures.value c.if-byte-ge128.false
    ∙ read-same byte c.from.result (skip 1 (cursor_of c.args.self)) (cursor_of c.skip.result) (sym c.from.ensures) (sym c.skip.ensures)
