use Rattle.mum_command_laws.proofs.Permitted.{kicks_where_permitted_lem}
use Rattle.mum_command_laws.proofs.users.kicks_where_permitted.Goals as goal

pub returns : goal.returns
returns c = kicks_where_permitted_lem
