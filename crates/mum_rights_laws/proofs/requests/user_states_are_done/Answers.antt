use Rattle.mum_rights_laws.proofs.UserRequestLaws.{user_states_are_done_lem}
use Rattle.mum_rights_laws.proofs.requests.user_states_are_done.Goals as goal

pub returns : goal.returns
returns c = user_states_are_done_lem
