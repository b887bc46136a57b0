use Rattle.mum_users.proofs.Common.{not, arith, is_of_session}
use Rattle.mum_users.proofs.Places.{unwrap_or-position}
use Rattle.mum_users.proofs.listening.session_count.Goals as goal

pub returns-clause-count : goal.returns-clause-count
returns-clause-count c = grind (arith, unwrap_or-position (λ pair. not (is_of_session c.args.session pair)) c.args.pairs.now)
