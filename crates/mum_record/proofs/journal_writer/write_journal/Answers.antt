use Rattle.mum_record.proofs.Common.{◌≡◌, arith, common_steps, IsBytes, lines_of, ended_lines, Each, FitsControl, FitsEntry}
use Rattle.mum_record.proofs.{Fits.journal_fits, Written.whole_text, Written.back}
use Rattle.mum_record.proofs.journal_writer.write_journal.Goals as goal

pub returns-clause-written : goal.returns-clause-written
returns-clause-written c =
    let whole = whole_text c.args.journal.now in
    grind (arith, common_steps)

pub returns-clause-read_back : goal.returns-clause-read_back
returns-clause-read_back c =
    let journal = c.args.journal.now in
    let whole = whole_text journal in
    let written : c.from_vec.result ≡ ended_lines (lines_of journal) = grind (arith, common_steps) in
    let controls : Each FitsControl journal.controls = rw c.as_slice-2.ensures at c.in_ok-push_controls.ensures.fits in
    let entries : Each (Each FitsEntry) journal.by_worker = rw c.as_slice-3.ensures at c.in_ok-push_workers.ensures.fits in
    let config : IsBytes journal.config = rw c.as_slice.ensures at c.in_ok-push_head.ensures.fits in
    back c.from_vec.result journal written (journal_fits journal c.requires config controls entries)
