use Rattle.mum_policy.proofs.Common.{actor_of}
use Rattle.mum_policy.proofs.Walks.{SoFar}
use Rattle.mum_policy.proofs.walk.permissions.Given as goal

abbrev pub invariant-channels : goal.invariant-channels
invariant-channels g l = SoFar (g.P.Policies.policy_of l.policies) l.path (actor_of l.who) l.place l.walk l.initial.steps l.steps
