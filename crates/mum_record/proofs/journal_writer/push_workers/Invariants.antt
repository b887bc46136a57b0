use Rattle.mum_record.proofs.Common.{◌≡◌, ◌++◌, take, string_bytes, lines_from, ended_lines, Each, FitsEntry}
use Rattle.mum_record.proofs.journal_writer.push_workers.Given as goal

abbrev pub invariant-loop-number : goal.invariant-loop-number
invariant-loop-number l = record {
  text : string_bytes l.text ≡ string_bytes l.initial.text ++ ended_lines (lines_from 0 (take l.number l.by_worker));
  fits : Each (Each FitsEntry) (take l.number l.by_worker);
}
