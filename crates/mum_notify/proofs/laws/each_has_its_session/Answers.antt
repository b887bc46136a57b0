use Rattle.mum_notify.proofs.Told.{each_has_its_session_lem}
use Rattle.mum_notify.proofs.laws.each_has_its_session.Goals as goal

pub returns : goal.returns
returns c = each_has_its_session_lem
