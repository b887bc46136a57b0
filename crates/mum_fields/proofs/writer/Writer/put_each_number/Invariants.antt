use Rattle.mum_fields.proofs.Common.{◌≡◌, ◌++◌, take, All, each_number, written, IsScalar}
use Rattle.mum_fields.proofs.writer.Writer.put_each_number.Given as goal

abbrev pub invariant-loop-value : goal.invariant-loop-value
invariant-loop-value g l = record {
  ok : l.self ≡ l.fn.self ++ written (each_number g.N.VarintType.number_of l.number (take l.value-index l.list));
  typed : All (IsScalar g.N.VarintType.value_of g.N.VarintType.number_of) (take l.value-index l.list);
}
