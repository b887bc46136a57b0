use Rattle.mum_record.proofs.Texts.{taken-no_text}
use Rattle.mum_record.proofs.draft.Draft.take.Goals as goal

pub returns-in-Err : goal.returns-in-Err
returns-in-Err c = taken-no_text c.args.self.now c.args.line.now c.in-Err.ensures.cases.0
