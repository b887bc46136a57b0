use Rattle.mum_kept.proofs.Common.{◌++◌, List, map, ap, ◌∙◌, arith, take_all, mapped_more, KeptChannel, policy_edit}
use Rattle.mum_kept.proofs.rebuilt.push_policies.Goals as goal

pub loop-channel-preserved : goal.loop-channel-preserved
loop-channel-preserved c =
    mapped_more policy_edit c.args.edits.now.items c.args.channels.now c.loop-channel.channel-index c.channel-item.result c.loop-channel.edits.items _ c.loop-channel-test.true c.channel-item.is c.loop-channel.invariant
    c.in_ok-push_policy.ensures

pub returns : goal.returns
returns c =
    c.loop-channel.invariant ∙ ap (λ (xs : List KeptChannel). c.args.edits.now.items ++ map policy_edit xs) (take_all c.loop-channel.channel-index c.args.channels.now (omega arith))
