use Rattle.mum_notify.proofs.Common.{◌∙◌, Bool, not, sym, has_number, User, parcel}
use Rattle.mum_notify.proofs.{Pieces.dropped_more, Pieces.kept_more, telling.tell_others.Goals.then-is_other+in_ok-tell_one, telling.tell_others.Goals.else-is_other}
use Rattle.mum_notify.proofs.telling.tell_others.Goals as goal

pub loop-user-preserved : goal.loop-user-preserved
loop-user-preserved c =
    let passes : User → Bool = λ user. not (has_number c.args.session user) in
    elim c.if-is_other.branch [
      | then-is_other+in_ok-tell_one w ↦ rw w.list-is (kept_more passes (parcel c.args.frame.now) c.args.list.now.items c.args.users.now c.loop-user.user-index c.user-item.result c.loop-user.list.items _ c.loop-user-test.true c.user-item.is (sym c.is_other.ensures ∙ w.if-is_other.true) c.loop-user.invariant w.in_ok-tell_one.ensures)
      | else-is_other w ↦ rw w.list-is (dropped_more passes (parcel c.args.frame.now) c.args.list.now.items c.args.users.now c.loop-user.user-index c.user-item.result c.loop-user.list.items c.loop-user-test.true c.user-item.is (sym c.is_other.ensures ∙ w.if-is_other.false) c.loop-user.invariant)
    ]
