-- The lines of one worker more.
use Rattle.mum_record.proofs.Common.{◌≡◌, ◌<◌, ◌++◌, map, length, sym, arith, string_bytes, append-nil, entry_line, lines_from, ended_lines, Each, FitsEntry}
use Rattle.mum_record.proofs.{Fits.Each-read, Written.worker_more}
use Rattle.mum_record.proofs.journal_writer.push_workers.Goals as goal

pub loop-number-init : goal.loop-number-init
unfolding lines_from
loop-number-init c = record { text = sym (append-nil (string_bytes c.args.text.now)); fits = tt }

pub loop-number-preserved : goal.loop-number-preserved
loop-number-preserved c =
    let lists = c.args.by_worker.now in
    let entries = c.index-by_worker-number.result in
    let room : c.loop-number.number < length lists = omega arith in
    let pushed : string_bytes c.push_entries.new.text ≡ string_bytes c.push_str.new.self ++ ended_lines (map entry_line entries) = rw c.as_slice.ensures at c.in_ok-push_entries.ensures.text in
    let fits : Each FitsEntry entries = rw c.as_slice.ensures at c.in_ok-push_entries.ensures.fits in
    record {
      text = worker_more (string_bytes c.args.text.now) _ _ _ _ lists c.loop-number.number entries room c.index-by_worker-number.is
          c.loop-number.invariant.text c.in_ok-push_line.ensures c.in_ok-push_str.ensures.bytes pushed;
      fits = Each-read (Each FitsEntry) lists c.loop-number.number entries room c.index-by_worker-number.is c.loop-number.invariant.fits fits;
    }
