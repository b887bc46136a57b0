use Rattle.mum_policy.proofs.Common.{◌≡◌, false, length}
use Rattle.mum_policy.proofs.{Parts.IsPart, Members.found}
use Rattle.mum_policy.proofs.group.is_in_defined.Given as goal

abbrev pub invariant-upwards : goal.invariant-upwards
invariant-upwards g l = record {
  same :
      found l.above (g.P.Policies.policy_of l.policies) l.name l.account l.up
      ≡ found false (g.P.Policies.policy_of l.policies) l.name l.account l.path;
  part : IsPart l.path l.up;
}

abbrev pub decreases-upwards : goal.decreases-upwards
decreases-upwards g l = length l.up
