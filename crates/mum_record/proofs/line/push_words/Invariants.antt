use Rattle.mum_record.proofs.Common.{◌≡◌, ◌++◌, take, string_bytes, flat_map, behind_space}
use Rattle.mum_record.proofs.line.push_words.Given as goal

abbrev pub invariant-loop-word : goal.invariant-loop-word
invariant-loop-word l = string_bytes l.text ≡ string_bytes l.initial.text ++ flat_map behind_space (take l.word-index l.words)
