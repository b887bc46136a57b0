use Rattle.mum_why.proofs.Common.{◌∙◌, Option, ap, sym, option_map_or, ChannelId, actor_of, Closed, by_entry, last_along}
use Rattle.mum_why.proofs.Walked.{ended_at, looked_first, looked_next, open_whole, stepped}
use Rattle.mum_why.proofs.walk.walk_for.Goals as goal

pub channels-init : goal.channels-init
channels-init g c =
    looked_first (g.P.Policies.policy_of c.args.policies.now) c.args.path.now (actor_of c.args.who.now) c.args.permission.0 c.start-progress.result c.start-progress.ensures

pub channels-preserved : goal.channels-preserved
channels-preserved g c =
    let step = stepped (g.P.Policies.policy_of c.args.policies.now) c.args.path.now (actor_of c.args.who.now) c.args.permission.0 c.channels.place _
    c.channels.progress c.pass_channel-progress.result c.channels-test.true c.pass_channel-progress.ensures in
    looked_next c.goes_on.result step c.goes_on.ensures c.if-not-goes_on.false c.channels.invariant

pub returns-then-not-goes_on : goal.returns-then-not-goes_on
returns-then-not-goes_on g c =
    let policies = g.P.Policies.policy_of c.args.policies.now in
    let step = stepped policies c.args.path.now (actor_of c.args.who.now) c.args.permission.0 c.channels.place _
    c.channels.progress c.pass_channel-progress.result c.channels-test.true c.pass_channel-progress.ensures in
    sym (ap (λ (o : Option ChannelId). option_map_or Closed o (by_entry (last_along policies c.args.path.now (actor_of c.args.who.now) c.args.permission.0 0 c.args.path.now)))
    (ended_at c.goes_on.result step c.goes_on.ensures c.if-not-goes_on.true c.channels.invariant))

pub returns : goal.returns
returns g c =
    let policies = g.P.Policies.policy_of c.args.policies.now in
    let whole = open_whole c.channels-test.false c.channels.invariant in
    c.by_entry.ensures ∙ ap by_entry whole.1
    ∙ sym (ap (λ (o : Option ChannelId). option_map_or Closed o (by_entry (last_along policies c.args.path.now (actor_of c.args.who.now) c.args.permission.0 0 c.args.path.now)))
    whole.0)
