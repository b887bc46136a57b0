use Rattle.mum_core.proofs.Notices.{notices_are_posted, posts_are_collected}
use Rattle.mum_core.proofs.laws.notices_keep_their_order.Goals as goal

pub returns-clause-posted : goal.returns-clause-posted
returns-clause-posted c = notices_are_posted

pub returns-clause-conserved : goal.returns-clause-conserved
returns-clause-conserved c = posts_are_collected
