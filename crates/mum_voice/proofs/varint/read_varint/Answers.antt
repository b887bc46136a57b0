use Rattle.mum_voice.proofs.Common.{arith}
use Rattle.mum_voice.proofs.Spelling.{reads_word, reads_none}
use Rattle.mum_voice.proofs.varint.read_varint.Goals as goal

pub returns-clause-read : goal.returns-clause-read
returns-clause-read c = reads_word c.args.bytes.now c.read_word.result (λ i. omega (arith, c.type_inv.bytes i)) c.read_word.ensures

pub returns-clause-none : goal.returns-clause-none
returns-clause-none c = reads_none c.args.bytes.now c.read_word.result (λ i. omega (arith, c.type_inv.bytes i)) c.read_word.ensures
