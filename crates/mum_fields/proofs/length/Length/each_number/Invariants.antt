use Rattle.mum_fields.proofs.Common.{◌≡◌, ◌+◌, take, cut, size, each_number}
use Rattle.mum_fields.proofs.length.Length.each_number.Given as goal

abbrev pub invariant-loop-value : goal.invariant-loop-value
invariant-loop-value g l = l.length ≡ cut (l.fn.self + size (each_number g.N.VarintType.number_of l.number (take l.value-index l.list)))
