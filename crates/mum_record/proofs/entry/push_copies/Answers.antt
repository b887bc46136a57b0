-- One copy more.
use Rattle.mum_record.proofs.Common.{◌<◌, length, arith, string_bytes, FitsCopy}
use Rattle.mum_record.proofs.{Appended.copy_more, Fits.Each-more}
use Rattle.mum_record.proofs.entry.push_copies.Goals as goal

pub loop-copy-preserved : goal.loop-copy-preserved
loop-copy-preserved c =
    let i = c.loop-copy.copy-index in
    let room : i < length c.args.copies.now = omega arith in
    record {
      text = copy_more (string_bytes c.args.text.now) _ _ _ c.args.copies.now i _ room c.loop-copy.invariant.text c.in_ok-push_str.ensures.bytes c.in_ok-push_copy.ensures.text;
      fits = Each-more FitsCopy c.args.copies.now i _ room c.loop-copy.invariant.fits c.in_ok-push_copy.ensures.fits;
    }
