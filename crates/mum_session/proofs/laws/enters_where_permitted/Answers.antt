use Rattle.mum_session.proofs.Entering.{enters_where_permitted_law}
use Rattle.mum_session.proofs.laws.enters_where_permitted.Goals as goal

pub returns : goal.returns
returns c = enters_where_permitted_law
