use Rattle.mum_why.proofs.Common.{◌≡◌, ◌+◌, ◌==◌, length, take, actor_of, matches, decides, passed}
use Rattle.mum_why.proofs.walk.pass_entries.Given as goal

abbrev pub invariant-entries : goal.invariant-entries
invariant-entries g l =
    let policies = g.P.Policies.policy_of l.walk.policies.now in
    record {
      value : l.passed ≡ passed (matches policies l.walk.path.now (actor_of l.walk.who.now) l.place)
          (decides policies l.walk.path.now (actor_of l.walk.who.now) l.walk.permission.0 l.place (l.place + 1 == length l.walk.path.now)) l.fn.before.traverse l.fn.before.write (take l.index l.entries);
      steps : l.steps ≡ l.initial.steps + l.index;
    }
