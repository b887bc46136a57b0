use Rattle.mum_kept.proofs.Common.{Bool, not, ap, sym, ◌∙◌, dropped_more, kept_more, KeptChannel, make_edit, is_top}
use Rattle.mum_kept.proofs.rebuilt.push_makes.Goals.{then-not-is_root+in_ok-push_make, else-not-is_root}
use Rattle.mum_kept.proofs.rebuilt.push_makes.Goals as goal

pub loop-channel-preserved : goal.loop-channel-preserved
loop-channel-preserved c =
    let passes : KeptChannel → Bool = λ channel. not (is_top channel) in
    elim c.if-not-is_root.branch [
      | then-not-is_root+in_ok-push_make w ↦
          rw w.edits-is (kept_more passes (make_edit c.args.prefix.now) c.args.edits.now.items c.args.channels.now c.loop-channel.channel-index c.channel-item.result c.loop-channel.edits.items _ c.loop-channel-test.true c.channel-item.is (ap not (sym c.is_root.ensures ∙ w.if-not-is_root.true)) c.loop-channel.invariant w.in_ok-push_make.ensures)
      | else-not-is_root w ↦
          rw w.edits-is (dropped_more passes (make_edit c.args.prefix.now) c.args.edits.now.items c.args.channels.now c.loop-channel.channel-index c.channel-item.result c.loop-channel.edits.items c.loop-channel-test.true c.channel-item.is (ap not (sym c.is_root.ensures ∙ w.if-not-is_root.false)) c.loop-channel.invariant)
    ]
