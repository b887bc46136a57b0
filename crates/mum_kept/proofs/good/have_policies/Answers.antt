use Rattle.mum_kept.proofs.Common.{ap, sym, ◌∙◌, arith, has_policy, holds_policy}
use Rattle.mum_kept.proofs.Goodness.{all_passed, more_pass, one_fails}
use Rattle.mum_kept.proofs.good.have_policies.Goals as goal

pub loop-channel-preserved : goal.loop-channel-preserved
loop-channel-preserved c =
    more_pass has_policy c.args.channels.now c.loop-channel.channel-index c.channel-item.result c.loop-channel-test.true c.channel-item.is c.loop-channel.invariant (sym (c.in_ok-holds.ensures ∙ ap (holds_policy c.channel-item.result.id) c.as_slice.ensures) ∙ c.if-not-holds.false)

pub returns-then-not-holds : goal.returns-then-not-holds
returns-then-not-holds c =
    sym (one_fails has_policy c.args.channels.now c.loop-channel.channel-index c.channel-item.result c.loop-channel-test.true c.channel-item.is (sym (c.in_ok-holds.ensures ∙ ap (holds_policy c.channel-item.result.id) c.as_slice.ensures) ∙ c.if-not-holds.true))

pub returns : goal.returns
returns c = sym (all_passed has_policy c.args.channels.now c.loop-channel.channel-index (omega arith) c.loop-channel.invariant)
