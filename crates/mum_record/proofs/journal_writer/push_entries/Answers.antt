-- One line more.
use Rattle.mum_record.proofs.Common.{◌<◌, length, arith, string_bytes, entry_line, FitsEntry}
use Rattle.mum_record.proofs.{Fits.Each-read, Written.line_more}
use Rattle.mum_record.proofs.journal_writer.push_entries.Goals as goal

pub loop-entry-preserved : goal.loop-entry-preserved
loop-entry-preserved c =
    let i = c.loop-entry.entry-index in
    let entry = c.entry-item.result in
    let room : i < length c.args.entries.now = omega arith in
    record {
      text = line_more entry_line (string_bytes c.args.text.now) _ _ _ c.args.entries.now i entry room c.entry-item.is
          c.loop-entry.invariant.text c.in_ok-push_entry.ensures.text c.in_ok-push_str.ensures.bytes;
      fits = Each-read FitsEntry c.args.entries.now i entry room c.entry-item.is c.loop-entry.invariant.fits c.in_ok-push_entry.ensures.fits;
    }
