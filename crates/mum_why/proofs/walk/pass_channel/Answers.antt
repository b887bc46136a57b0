use Rattle.mum_why.proofs.Common.{◌∙◌, ◌==◌, ◌+◌, length, ap, sym, option_copied, actor_of}
use Rattle.mum_why.proofs.Walked.{pass_absent, pass_there}
use Rattle.mum_why.proofs.walk.pass_channel.Goals as goal

pub returns-in_default : goal.returns-in_default
returns-in_default g c =
    pass_absent (g.P.Policies.policy_of c.args.walk.now.policies.now) c.args.walk.now.path.now (actor_of c.args.walk.now.who.now) c.args.walk.now.permission.0 c.args.place
    (c.args.place + 1 == length c.args.walk.now.path.now) c.args.channel c.args.before (sym c.policy.ensures ∙ ap option_copied c.in_default.is)

pub returns : goal.returns
returns g c =
    pass_there (g.P.Policies.policy_of c.args.walk.now.policies.now) c.args.walk.now.path.now (actor_of c.args.walk.now.who.now) c.args.walk.now.permission.0 c.args.place
    (c.args.place + 1 == length c.args.walk.now.path.now) c.args.channel c.args.before c.in-Some.policy.now c.as_slice-entries.result.now c.pass_entries-passed.result
    c.kept-kept.result c.later.result (sym c.policy.ensures ∙ ap option_copied c.in-Some.is) c.as_slice-entries.ensures c.pass_entries-passed.ensures.value
    c.kept-kept.ensures c.later.ensures
