-- The view stays at or before what is decided.
use Rattle.std.proofs.Common.{◌≡◌, sym, subst}
use Rattle.mum_record.specs.declared.journal.ControlEntry.{ControlEntry}
use Rattle.mum_history.proofs.Public.{views_stay}
use Rattle.mum_history.specs.View.{IsViewOf, ViewValue}
use Rattle.mum_audit.specs.{Controls.after_entry, Past.Past}

pub stays_behind : (past after : Past) (entry : ControlEntry) (view : ViewValue) → after ≡ after_entry past entry
    → IsViewOf past.opening past.accepted view → IsViewOf after.opening after.accepted view
stays_behind past after entry view is seen =
    subst (λ (p : Past). IsViewOf p.opening p.accepted view) (sym is) (views_stay past.opening past.accepted _ view seen)
