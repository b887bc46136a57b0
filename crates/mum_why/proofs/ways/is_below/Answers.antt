use Rattle.mum_why.proofs.Common.{◌∙◌, among-below}
use Rattle.mum_why.proofs.ways.is_below.Goals as goal

pub returns : goal.returns
returns c = c.is_below.ensures ∙ among-below c.args.tree.now c.args.top c.args.channel
