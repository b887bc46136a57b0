use Rattle.mum_policy.proofs.Held.{nobody_has_more, nothing_elsewhere}
use Rattle.mum_policy.proofs.laws.nobody_has_more.Goals as goal

pub returns-clause-exist : goal.returns-clause-exist
returns-clause-exist c = nobody_has_more

pub returns-clause-root : goal.returns-clause-root
returns-clause-root c = nothing_elsewhere
