use Rattle.mum_users.proofs.Common.{Some, sym, ap, ◌∙◌, has_slot}
use Rattle.mum_users.proofs.Places.{find-absent, find-found}
use Rattle.mum_users.proofs.sessions.row_at.Goals as goal

pub returns-in-None : goal.returns-in-None
returns-in-None c = sym (find-absent (has_slot c.args.slot) c.args.users.now c.in-None.ensures)

pub returns-in-Some : goal.returns-in-Some
returns-in-Some c = ap Some c.index-users-index.is ∙ sym (find-found (has_slot c.args.slot) c.args.users.now c.in-Some.index c.index-users-index.result c.in-Some.ensures)
