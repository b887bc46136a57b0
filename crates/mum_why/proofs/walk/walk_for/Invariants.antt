use Rattle.mum_why.proofs.Common.{actor_of}
use Rattle.mum_why.proofs.Walked.{Looked}
use Rattle.mum_why.proofs.walk.walk_for.Given as goal

abbrev pub invariant-channels : goal.invariant-channels
invariant-channels g l = Looked (g.P.Policies.policy_of l.policies) l.path (actor_of l.fn.who) l.fn.permission.0 l.place l.progress
