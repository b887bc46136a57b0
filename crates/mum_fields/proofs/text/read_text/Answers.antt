use Rattle.mum_fields.proofs.Texts.{text-read, text-refused}
use Rattle.mum_fields.proofs.text.read_text.Goals as goal

pub returns-in-Ok-clause-rule : goal.returns-in-Ok-clause-rule
returns-in-Ok-clause-rule c = text-read c.args.at c.args.block.now c.in-Ok.ensures.cases.1

pub returns-in-Err-clause-rule : goal.returns-in-Err-clause-rule
returns-in-Err-clause-rule c = rw c.at.ensures (text-refused c.args.at c.args.block.now c.in-Err.ensures.cases.0)
