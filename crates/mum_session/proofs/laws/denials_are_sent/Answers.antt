use Rattle.mum_session.proofs.Denials.{denied_is_sent}
use Rattle.mum_session.proofs.laws.denials_are_sent.Goals as goal

pub returns : goal.returns
returns c = denied_is_sent
