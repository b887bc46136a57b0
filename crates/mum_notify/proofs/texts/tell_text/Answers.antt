use Rattle.mum_notify.proofs.Common.{◌∙◌, Bool, sym, User, parcel, is_for}
use Rattle.mum_notify.proofs.{Pieces.dropped_more, Pieces.kept_more, texts.tell_text.Goals.then-is_for+in_ok-tell_one, texts.tell_text.Goals.else-is_for}
use Rattle.mum_notify.proofs.texts.tell_text.Goals as goal

pub loop-user-preserved : goal.loop-user-preserved
loop-user-preserved c =
    let text = c.args.text.now in
    let passes : User → Bool = is_for c.args.state.now text.actor text.sessions.now text.channels.now text.trees.now in
    elim c.if-is_for.branch [
      | then-is_for+in_ok-tell_one w ↦ rw w.list-is (kept_more passes (parcel c.args.frame.now) c.args.list.now.items c.args.users.now c.loop-user.user-index c.user-item.result c.loop-user.list.items _ c.loop-user-test.true c.user-item.is (sym c.is_for.ensures ∙ w.if-is_for.true) c.loop-user.invariant w.in_ok-tell_one.ensures)
      | else-is_for w ↦ rw w.list-is (dropped_more passes (parcel c.args.frame.now) c.args.list.now.items c.args.users.now c.loop-user.user-index c.user-item.result c.loop-user.list.items c.loop-user-test.true c.user-item.is (sym c.is_for.ensures ∙ w.if-is_for.false) c.loop-user.invariant)
    ]
