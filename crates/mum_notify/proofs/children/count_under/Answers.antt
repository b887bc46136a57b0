use Rattle.mum_notify.proofs.Common.{not, arith, unwrap_or-position, is_under}
use Rattle.mum_notify.proofs.children.count_under.Goals as goal

pub returns-clause-count : goal.returns-clause-count
returns-clause-count c = grind (arith, unwrap_or-position (λ child. not (is_under c.args.parent child)) c.args.listed.now)
