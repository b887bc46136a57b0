use Rattle.mum_policy.proofs.Common.{◌≡◌, ◌+◌, drop, actor_of, after_entries, matches}
use Rattle.mum_policy.proofs.walk.pass_channel.Given as goal

abbrev pub invariant-entries : goal.invariant-entries
invariant-entries g l =
    let matching = matches (g.P.Policies.policy_of l.policies) l.path (actor_of l.who) l.place in
    record {
      walk : after_entries matching l.asked (drop l.entry-index l.entries) l.walk ≡ after_entries matching l.asked l.entries l.initial.walk;
      steps : l.steps ≡ l.initial.steps + l.entry-index;
    }
