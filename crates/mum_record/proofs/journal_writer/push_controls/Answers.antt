-- One line more.
use Rattle.mum_record.proofs.Common.{◌<◌, length, arith, string_bytes, control_line, FitsControl}
use Rattle.mum_record.proofs.{Fits.Each-read, Written.line_more}
use Rattle.mum_record.proofs.journal_writer.push_controls.Goals as goal

pub loop-entry-preserved : goal.loop-entry-preserved
loop-entry-preserved c =
    let i = c.loop-entry.entry-index in
    let entry = c.entry-item.result in
    let room : i < length c.args.controls.now = omega arith in
    record {
      text = line_more control_line (string_bytes c.args.text.now) _ _ _ c.args.controls.now i entry room c.entry-item.is
          c.loop-entry.invariant.text c.in_ok-push_control.ensures.text c.in_ok-push_str.ensures.bytes;
      fits = Each-read FitsControl c.args.controls.now i entry room c.entry-item.is c.loop-entry.invariant.fits c.in_ok-push_control.ensures.fits;
    }
