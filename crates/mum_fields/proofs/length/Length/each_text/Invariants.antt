use Rattle.mum_fields.proofs.Common.{◌≡◌, ◌+◌, take, cut, size, each_block}
use Rattle.mum_fields.proofs.length.Length.each_text.Given as goal

abbrev pub invariant-loop-text : goal.invariant-loop-text
invariant-loop-text l = l.length ≡ cut (l.fn.self + size (each_block l.number (take l.text-index l.list)))
