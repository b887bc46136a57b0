use Rattle.mum_notify.proofs.Common.{◌∙◌, Bool, not, ap, sym, is_among, ChannelId}
use Rattle.mum_notify.proofs.{Pieces.passed_at, Pieces.skipped_at, channels.only_in.Goals.then-not-contains+in_ok-push, channels.only_in.Goals.else-not-contains}
use Rattle.mum_notify.proofs.channels.only_in.Goals as goal

pub loop-id-preserved : goal.loop-id-preserved
loop-id-preserved c =
    let passes : ChannelId → Bool = λ id. not (is_among c.args.others.now id) in
    elim c.if-not-contains.branch [
      | then-not-contains+in_ok-push w ↦ rw w.listed-is (passed_at passes (λ id. id.0) c.args.ids.now c.loop-id.id-index _ c.loop-id.listed.items _ c.loop-id-test.true (ap not (sym c.contains.ensures.value ∙ w.if-not-contains.true)) c.loop-id.invariant w.in_ok-push.ensures.items)
      | else-not-contains w ↦ rw w.listed-is (skipped_at passes (λ id. id.0) c.args.ids.now c.loop-id.id-index _ c.loop-id.listed.items c.loop-id-test.true (ap not (sym c.contains.ensures.value ∙ w.if-not-contains.false)) c.loop-id.invariant)
    ]
