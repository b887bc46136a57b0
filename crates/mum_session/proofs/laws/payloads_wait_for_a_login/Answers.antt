use Rattle.mum_session.proofs.Common.{refl}
use Rattle.mum_session.proofs.Strangers.{unread, gone}
use Rattle.mum_session.proofs.laws.payloads_wait_for_a_login.Goals as goal

pub returns-clause-unread : goal.returns-clause-unread
returns-clause-unread c = λ machine kind payload other none known. unread machine.stage machine kind payload other refl none known

pub returns-clause-rejected : goal.returns-clause-rejected
returns-clause-rejected c = λ machine kind payload is. gone machine.stage machine kind payload refl is
