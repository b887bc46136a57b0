use Rattle.mum_keeper.proofs.Ordering.{all_in_order}
use Rattle.mum_keeper.proofs.laws.changes_keep_the_order.Goals as goal

pub returns : goal.returns
returns c = λ changes rows order. all_in_order changes rows order
