use Rattle.mum_record.proofs.HeadLemmas.{begin_below_the_head}
use Rattle.mum_record.proofs.head.steps_begin_below_the_head.Goals as goal

pub returns : goal.returns
returns c = begin_below_the_head
