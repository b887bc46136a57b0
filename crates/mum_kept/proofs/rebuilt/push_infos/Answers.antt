use Rattle.mum_kept.proofs.Common.{sym, ◌∙◌, dropped_more, kept_more, KeptChannel, describes_root, info_edit}
use Rattle.mum_kept.proofs.rebuilt.push_infos.Goals.{then-describes_root+in_ok-push_info, else-describes_root}
use Rattle.mum_kept.proofs.rebuilt.push_infos.Goals as goal

pub loop-channel-preserved : goal.loop-channel-preserved
loop-channel-preserved c =
    elim c.if-describes_root.branch [
      | then-describes_root+in_ok-push_info w ↦
          rw w.edits-is (kept_more describes_root (λ (channel : KeptChannel). info_edit channel.info) c.args.edits.now.items c.args.channels.now c.loop-channel.channel-index c.channel-item.result c.loop-channel.edits.items _ c.loop-channel-test.true c.channel-item.is (sym c.describes_root.ensures ∙ w.if-describes_root.true) c.loop-channel.invariant w.in_ok-push_info.ensures)
      | else-describes_root w ↦
          rw w.edits-is (dropped_more describes_root (λ (channel : KeptChannel). info_edit channel.info) c.args.edits.now.items c.args.channels.now c.loop-channel.channel-index c.channel-item.result c.loop-channel.edits.items c.loop-channel-test.true c.channel-item.is (sym c.describes_root.ensures ∙ w.if-describes_root.false) c.loop-channel.invariant)
    ]
