use Rattle.mum_laws.proofs.Whole.{user_there}
use Rattle.mum_laws.proofs.exercises.users_have_their_sessions.Goals as goal

pub returns : goal.returns
returns c = user_there
