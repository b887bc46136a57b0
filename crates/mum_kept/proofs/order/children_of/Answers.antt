use Rattle.mum_kept.proofs.Common.{Bool, not, ap, sym, ◌∙◌, [], Pair, dropped_more, kept_more, KeptChannel, is_top}
use Rattle.mum_kept.proofs.order.children_of.Goals.{then-not-is_root+in_ok-push, else-not-is_root}
use Rattle.mum_kept.proofs.order.children_of.Goals as goal

pub loop-channel-preserved : goal.loop-channel-preserved
loop-channel-preserved c =
    let passes : KeptChannel → Bool = λ channel. not (is_top channel) in
    let seat : KeptChannel → Pair = λ channel. (channel.parent, channel.id) in
    elim c.if-not-is_root.branch [
      | then-not-is_root+in_ok-push w ↦
          rw w.listed-is (kept_more passes seat [] c.args.channels.now c.loop-channel.channel-index c.channel-item.result c.loop-channel.listed.items _ c.loop-channel-test.true c.channel-item.is (ap not (sym c.is_root.ensures ∙ w.if-not-is_root.true)) c.loop-channel.invariant w.in_ok-push.ensures.items)
      | else-not-is_root w ↦
          rw w.listed-is (dropped_more passes seat [] c.args.channels.now c.loop-channel.channel-index c.channel-item.result c.loop-channel.listed.items c.loop-channel-test.true c.channel-item.is (ap not (sym c.is_root.ensures ∙ w.if-not-is_root.false)) c.loop-channel.invariant)
    ]
