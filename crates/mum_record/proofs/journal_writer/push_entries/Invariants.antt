use Rattle.mum_record.proofs.Common.{◌≡◌, ◌++◌, map, take, string_bytes, entry_line, ended_lines, Each, FitsEntry}
use Rattle.mum_record.proofs.journal_writer.push_entries.Given as goal

abbrev pub invariant-loop-entry : goal.invariant-loop-entry
invariant-loop-entry l = record {
  text : string_bytes l.text ≡ string_bytes l.initial.text ++ ended_lines (map entry_line (take l.entry-index l.entries));
  fits : Each FitsEntry (take l.entry-index l.entries);
}
