use Rattle.mum_users.proofs.Common.{Some, sym, ap, ◌∙◌, has_number}
use Rattle.mum_users.proofs.Places.{find-absent, find-found}
use Rattle.mum_users.proofs.sessions.row_of.Goals as goal

pub returns-in-None : goal.returns-in-None
returns-in-None c = sym (find-absent (has_number c.args.session) c.args.users.now c.in-None.ensures)

pub returns-in-Some : goal.returns-in-Some
returns-in-Some c = ap Some c.index-users-index.is ∙ sym (find-found (has_number c.args.session) c.args.users.now c.in-Some.index c.index-users-index.result c.in-Some.ensures)
