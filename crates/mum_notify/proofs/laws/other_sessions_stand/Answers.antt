use Rattle.mum_notify.proofs.Unwatched.{other_sessions_stand_lem}
use Rattle.mum_notify.proofs.laws.other_sessions_stand.Goals as goal

pub returns : goal.returns
returns c = other_sessions_stand_lem
