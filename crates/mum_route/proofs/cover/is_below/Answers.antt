use Rattle.mum_route.proofs.Common.{◌∙◌}
use Rattle.mum_route.proofs.Among.{among-below}
use Rattle.mum_route.proofs.cover.is_below.Goals as goal

pub returns : goal.returns
returns c = c.is_below.ensures ∙ among-below c.args.tree.now c.args.top c.args.channel
