use Rattle.mum_notify.proofs.Common.{◌∙◌, Bool, not, ap, sym, listens, ListenerPair}
use Rattle.mum_notify.proofs.{Pieces.passed_at, Pieces.skipped_at, users.channels_not_in.Goals.then-not-listens+in_ok-push, users.channels_not_in.Goals.else-not-listens}
use Rattle.mum_notify.proofs.users.channels_not_in.Goals as goal

pub loop-pair-preserved : goal.loop-pair-preserved
loop-pair-preserved c =
    let passes : ListenerPair → Bool = λ pair. not (listens c.args.other.now c.args.session pair.channel) in
    elim c.if-not-listens.branch [
      | then-not-listens+in_ok-push w ↦ rw w.listed-is (passed_at passes (λ pair. pair.channel.0) c.args.pairs.now c.loop-pair.pair-index _ c.loop-pair.listed.items _ c.loop-pair-test.true (ap not (sym c.listens.ensures ∙ w.if-not-listens.true)) c.loop-pair.invariant w.in_ok-push.ensures.items)
      | else-not-listens w ↦ rw w.listed-is (skipped_at passes (λ pair. pair.channel.0) c.args.pairs.now c.loop-pair.pair-index _ c.loop-pair.listed.items c.loop-pair-test.true (ap not (sym c.listens.ensures ∙ w.if-not-listens.false)) c.loop-pair.invariant)
    ]
