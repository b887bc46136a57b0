use Rattle.mum_record.proofs.Common.{◌≡◌, ◌++◌, map, take, string_bytes, control_line, ended_lines, Each, FitsControl}
use Rattle.mum_record.proofs.journal_writer.push_controls.Given as goal

abbrev pub invariant-loop-entry : goal.invariant-loop-entry
invariant-loop-entry l = record {
  text : string_bytes l.text ≡ string_bytes l.initial.text ++ ended_lines (map control_line (take l.entry-index l.controls));
  fits : Each FitsControl (take l.entry-index l.controls);
}
