use Rattle.mum_fields.proofs.Common.{◌≡◌, ◌++◌, take, All, each_block, written, IsText}
use Rattle.mum_fields.proofs.writer.Writer.put_each_text.Given as goal

abbrev pub invariant-loop-text : goal.invariant-loop-text
invariant-loop-text l = record {
  ok : l.self ≡ l.fn.self ++ written (each_block l.number (take l.text-index l.list));
  typed : All IsText (take l.text-index l.list);
}
