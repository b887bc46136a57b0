use Rattle.mum_why.proofs.Common.{marked_among}
use Rattle.mum_why.proofs.ways.is_marked.Goals as goal

pub returns : goal.returns
returns c = marked_among c.args.scratch.now c.args.channel c.marked.result c.marked.ensures
