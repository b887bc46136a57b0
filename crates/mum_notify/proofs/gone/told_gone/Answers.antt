use Rattle.mum_notify.proofs.Common.{◌∙◌, Bool, sym, ChannelId, is_told_gone}
use Rattle.mum_notify.proofs.{Pieces.dropped_at, Pieces.kept_at, gone.told_gone.Goals.then-is_told_gone+in_ok-push, gone.told_gone.Goals.else-is_told_gone}
use Rattle.mum_notify.proofs.gone.told_gone.Goals as goal

pub loop-id-preserved : goal.loop-id-preserved
loop-id-preserved c =
    let passes : ChannelId → Bool = is_told_gone c.args.top c.args.before.now c.args.after.now in
    elim c.if-is_told_gone.branch [
      | then-is_told_gone+in_ok-push w ↦ rw w.gone-is (kept_at passes c.args.ids.now c.loop-id.id-index _ c.loop-id.gone.items _ c.loop-id-test.true (sym c.is_told_gone.ensures ∙ w.if-is_told_gone.true) c.loop-id.invariant w.in_ok-push.ensures.items)
      | else-is_told_gone w ↦ rw w.gone-is (dropped_at passes c.args.ids.now c.loop-id.id-index _ c.loop-id.gone.items c.loop-id-test.true (sym c.is_told_gone.ensures ∙ w.if-is_told_gone.false) c.loop-id.invariant)
    ]
