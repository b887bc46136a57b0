use Rattle.mum_record.proofs.Common.{sym, ◌∙◌, ap, Some}
use Rattle.mum_record.proofs.EntryLaws.{bytes_of-decodes}
use Rattle.mum_record.proofs.words.bytes_in.Goals as goal

pub returns-in-Ok : goal.returns-in-Ok
returns-in-Ok c =
    let some = rw c.as_bytes.ensures.value at (sym c.is_bytes.ensures ∙ c.if-not-is_bytes.false) in
    bytes_of-decodes c.args.word.now c.in-Ok.bytes.items some c.in-Ok.ensures.ok ∙ ap Some (sym c.from_vec.ensures)
