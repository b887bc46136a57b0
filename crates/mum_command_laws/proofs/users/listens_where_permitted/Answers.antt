use Rattle.mum_command_laws.proofs.Permitted.{listens_where_permitted_lem}
use Rattle.mum_command_laws.proofs.users.listens_where_permitted.Goals as goal

pub returns : goal.returns
returns c = listens_where_permitted_lem
