use Rattle.mum_pace.proofs.Sayings.{halves_are}
use Rattle.mum_pace.proofs.pace.split.Goals as goal

pub returns : goal.returns
returns c = halves_are c.args.mark c.args.text.now c.split_once.result c.requires c.split_once.ensures.cases
