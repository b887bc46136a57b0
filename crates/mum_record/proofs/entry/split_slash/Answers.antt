use Rattle.mum_record.proofs.Slashes.{slashed}
use Rattle.mum_record.proofs.entry.split_slash.Goals as goal

pub returns : goal.returns
returns c = slashed c.args.word.now c.split_once.result c.split_once.ensures.cases
