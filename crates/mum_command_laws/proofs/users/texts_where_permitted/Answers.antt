use Rattle.mum_command_laws.proofs.Permitted.{texts_where_permitted_lem}
use Rattle.mum_command_laws.proofs.users.texts_where_permitted.Goals as goal

pub returns : goal.returns
returns c = texts_where_permitted_lem
