use Rattle.mum_record.proofs.Common.{◌≡◌, ◌++◌, take, string_bytes, flat_map, behind_copy, Each, FitsCopy}
use Rattle.mum_record.proofs.entry.push_copies.Given as goal

abbrev pub invariant-loop-copy : goal.invariant-loop-copy
invariant-loop-copy l = record {
  text : string_bytes l.text ≡ string_bytes l.initial.text ++ flat_map behind_copy (take l.copy-index l.copies);
  fits : Each FitsCopy (take l.copy-index l.copies);
}
