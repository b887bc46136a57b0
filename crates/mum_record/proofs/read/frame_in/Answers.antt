use Rattle.mum_record.proofs.Common.{sym, ◌∙◌, ap, Some}
use Rattle.mum_record.proofs.Frames.{frame_of-decodes}
use Rattle.mum_record.proofs.read.frame_in.Goals as goal

pub returns-in-Ok : goal.returns-in-Ok
returns-in-Ok c =
    let some = rw c.as_bytes.ensures.value at (sym c.is_frame.ensures ∙ c.if-not-is_frame.false) in
    frame_of-decodes c.args.word.now c.in-Ok.bytes.items some c.in-Ok.ensures.ok ∙ ap Some (sym c.from_vec.ensures)
