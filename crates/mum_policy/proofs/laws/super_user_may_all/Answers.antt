use Rattle.mum_policy.proofs.Held.{super_may_all}
use Rattle.mum_policy.proofs.laws.super_user_may_all.Goals as goal

pub returns : goal.returns
returns c = super_may_all
