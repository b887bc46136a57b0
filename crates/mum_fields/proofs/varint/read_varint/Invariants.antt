use Rattle.mum_fields.proofs.Common.{◌≡◌, ◌-◌, ◌^◌, ◌<◌, ◌≤◌, drop, varint, varint_with}
use Rattle.mum_fields.proofs.Varints.{behind}
use Rattle.mum_fields.proofs.varint.read_varint.Given as goal

abbrev pub invariant-loop-index : goal.invariant-loop-index
invariant-loop-index l = record {
  few : l.index ≤ 9;
  scale : l.scale ≡ 128 ^ l.index;
  below : l.number < 128 ^ l.index;
  so_far : behind l.number l.scale l.index (varint_with (9 - l.index) (drop l.index l.bytes)) ≡ varint l.bytes;
}
